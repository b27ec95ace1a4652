-- How links between nodes make lists. No public clause cites this module. All definitions here are
-- this project's own.
use Rattle.std.specs.Prelude.{◌≡◌, ◌≢◌, ◌<◌, ℕ, zero, suc, true, List, [], ◌∷◌, length, Option, Some, None}
use Rattle.cf_links.specs.Lists.{nodes_of, is_in}

-- where the links of each list and of each node lead, and the list whose mark a node has
pub record Web : Type 0 where
  pub first : ℕ → Option ℕ
  pub last : ℕ → Option ℕ
  pub next : ℕ → Option ℕ
  pub prev : ℕ → Option ℕ
  pub list : ℕ → Option ℕ

-- where the link onwards leads in the list l: from a node to the next, from the list itself, for
-- which `None` stands, to its first node
abbrev pub next_from : Web → ℕ → Option ℕ → Option ℕ
next_from w l None = w.first l
next_from w l (Some n) = w.next n

-- where the link backwards leads, from the list itself to its last node
abbrev pub prev_from : Web → ℕ → Option ℕ → Option ℕ
prev_from w l None = w.last l
prev_from w l (Some n) = w.prev n

-- in the list l, `to` comes right after `from`, and each has a link to the other
pub record AreJoined (w : Web) (l : ℕ) (from to : Option ℕ) : Type 0 where
  pub onwards : next_from w l from ≡ to
  pub backwards : prev_from w l to ≡ from

-- after `from` the list l has these nodes, and then it ends
abbrev pub GoesOn : Web → ℕ → Option ℕ → List ℕ → Type 0
GoesOn w l from [] = AreJoined w l from None
GoesOn w l from (n ∷ ns) = AreJoined w l from (Some n) × (w.list n ≡ Some l) × GoesOn w l (Some n) ns

-- the links make these lists, each node with a mark is in the list that it names, and the other
-- nodes have no neighbours
pub record AreLists (w : Web) (lists : List (List ℕ)) : Type 0 where
  pub going : (l : ℕ) → l < length lists → GoesOn w l None (nodes_of lists l)
  pub listed : (n l : ℕ) → w.list n ≡ Some l → is_in n (nodes_of lists l) ≡ true
  pub loose : (n : ℕ) → w.list n ≡ None → (w.next n ≡ None) × (w.prev n ≡ None)

-- the node n comes into the list l, between `from` and `to`, and no other link changes
pub record Puts (old new : Web) (l n : ℕ) (from to : Option ℕ) : Type 0 where
  pub before : AreJoined new l from (Some n)
  pub after : AreJoined new l (Some n) to
  pub mark : new.list n ≡ Some l
  pub nexts : (x : Option ℕ) → x ≢ from → x ≢ Some n → next_from new l x ≡ next_from old l x
  pub prevs : (x : Option ℕ) → x ≢ to → x ≢ Some n → prev_from new l x ≡ prev_from old l x
  pub marks : (m : ℕ) → m ≢ n → new.list m ≡ old.list m
  pub firsts : (k : ℕ) → k ≢ l → new.first k ≡ old.first k
  pub lasts : (k : ℕ) → k ≢ l → new.last k ≡ old.last k

-- the node n leaves the list l, where it was between `from` and `to`, and no other link changes
pub record Removes (old new : Web) (l n : ℕ) (from to : Option ℕ) : Type 0 where
  pub closed : AreJoined new l from to
  pub mark : new.list n ≡ None
  pub next : new.next n ≡ None
  pub prev : new.prev n ≡ None
  pub nexts : (x : Option ℕ) → x ≢ from → x ≢ Some n → next_from new l x ≡ next_from old l x
  pub prevs : (x : Option ℕ) → x ≢ to → x ≢ Some n → prev_from new l x ≡ prev_from old l x
  pub marks : (m : ℕ) → m ≢ n → new.list m ≡ old.list m
  pub firsts : (k : ℕ) → k ≢ l → new.first k ≡ old.first k
  pub lasts : (k : ℕ) → k ≢ l → new.last k ≡ old.last k

-- the nodes that links lead to, from `from` on, at most so many
abbrev pub walk : ℕ → (ℕ → Option ℕ) → Option ℕ → List ℕ
walk zero next from = []
walk (suc steps) next None = []
walk (suc steps) next (Some n) = n ∷ walk steps next (next n)

-- the link onwards from `from` in the list l leads to `to`, and no other link changes
pub record Leads (old new : Web) (l : ℕ) (from to : Option ℕ) : Type 0 where
  pub set : next_from new l from ≡ to
  pub nexts : (x : Option ℕ) → x ≢ from → next_from new l x ≡ next_from old l x
  pub firsts : (k : ℕ) → k ≢ l → new.first k ≡ old.first k
  pub lasts : (k : ℕ) → new.last k ≡ old.last k
  pub prevs : (n : ℕ) → new.prev n ≡ old.prev n
  pub marks : (n : ℕ) → new.list n ≡ old.list n

-- the web with each link turned round
abbrev pub mirror : Web → Web
mirror w = record { first = w.last; last = w.first; next = w.prev; prev = w.next; list = w.list }

-- the node `to` comes right after `from` in the list l, and no other link changes
pub record Joins (old new : Web) (l : ℕ) (from to : Option ℕ) : Type 0 where
  pub joined : AreJoined new l from to
  pub nexts : (x : Option ℕ) → x ≢ from → next_from new l x ≡ next_from old l x
  pub prevs : (x : Option ℕ) → x ≢ to → prev_from new l x ≡ prev_from old l x
  pub firsts : (k : ℕ) → k ≢ l → new.first k ≡ old.first k
  pub lasts : (k : ℕ) → k ≢ l → new.last k ≡ old.last k
  pub marks : (n : ℕ) → new.list n ≡ old.list n

-- the node n has this mark, and nothing else changes
pub record Marks (old new : Web) (n : ℕ) (mark : Option ℕ) : Type 0 where
  pub set : new.list n ≡ mark
  pub marks : (m : ℕ) → m ≢ n → new.list m ≡ old.list m
  pub nexts : (l : ℕ) (x : Option ℕ) → next_from new l x ≡ next_from old l x
  pub prevs : (l : ℕ) (x : Option ℕ) → prev_from new l x ≡ prev_from old l x

-- the node n has no mark and no neighbour, and nothing else changes
pub record Clears (old new : Web) (n : ℕ) : Type 0 where
  pub mark : new.list n ≡ None
  pub next : new.next n ≡ None
  pub prev : new.prev n ≡ None
  pub marks : (m : ℕ) → m ≢ n → new.list m ≡ old.list m
  pub nexts : (l : ℕ) (x : Option ℕ) → x ≢ Some n → next_from new l x ≡ next_from old l x
  pub prevs : (l : ℕ) (x : Option ℕ) → x ≢ Some n → prev_from new l x ≡ prev_from old l x
