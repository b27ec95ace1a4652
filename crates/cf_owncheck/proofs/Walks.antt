-- The check at some word of a block: the lines so far are counted, and what is left decides as the whole does.
use Rattle.std.proofs.Common.{◌≡◌, ℕ, ◌+◌, ◌<◌, ◌≤◌, List, [], ◌∷◌, ◌++◌, length, drop, map, get_or, Option, Some, None, refl, ap, sym, ◌∙◌, arith, append_assoc, append-nil, subst}
use Rattle.std.specs.Prelude.{slice_index}
use Rattle.std.proofs.lemmas.List.{drop_more, drop_all}
use Rattle.cf_syntax.specs.declared.counts.Counts.{Counts}
use Rattle.cf_syntax.specs.declared.statement.Statement.{Statement}
use Rattle.cf_syntax.specs.declared.script.Script.{Script}
use Rattle.cf_syntax.specs.declared.script.Block.{Block}
use Rattle.cf_syntax.specs.declared.script.Given.{Given}
use Rattle.cf_syntax.specs.declared.refusal.Refusal.{Refusal}
use Rattle.cf_syntax.specs.declared.refusal.Reason.{Reason}
use Rattle.cf_syntax.specs.declared.mention.Ownership.TheVariants.{Keeps}
use Rattle.cf_syntax.proofs.CountLaws.{counted_more}
use Rattle.cf_syntax.specs.Mentions.{ownership_of}
use Rattle.cf_syntax.specs.BlockLines.{BlockLine, claims, says, packs, line_ownership, packs_from, claims_from}
use Rattle.cf_syntax.specs.Counting.{Counted, HasRoom}
use Rattle.cf_syntax.specs.Owned.{or_else, on_line, line_fault, statements_fault, given_fault, uses_fault, thread_block_fault, threads_fault}

-- ---- faults

pub or_last : (a : Option Reason) → or_else a None ≡ a
or_last None = refl
or_last (Some r) = refl

pub or_none : {A : Type 0} (a b : Option A) → a ≡ None → or_else a b ≡ b
or_none {A = A} a b e = ap (λ (o : Option A). or_else o b) e

pub or_some : {A : Type 0} (a b : Option A) (r : A) → a ≡ Some r → or_else a b ≡ Some r
or_some {A = A} a b r e = ap (λ (o : Option A). or_else o b) e

-- ---- statements

pub record Reached (s : Script) (c : Counts) (ns : List ℕ) (xs : List Statement) (all : Option Refusal) (whole : List BlockLine) : Type 0 where
  pub lines : List BlockLine
  pub counted : Counted c lines
  pub fault : statements_fault s lines ns xs ≡ all
  pub rest : lines ++ map says xs ≡ whole

pub reached_start : (s : Script) (c : Counts) (ns : List ℕ) (xs : List Statement) (earlier : List BlockLine)
    → Counted c earlier
    → Reached s c ns xs (statements_fault s earlier ns xs) (earlier ++ map says xs)
reached_start s c ns xs earlier counted = record { lines = earlier; counted = counted; fault = refl; rest = refl }

pub reached_more : (s : Script) (c after : Counts) (ns : List ℕ) (x : Statement) (xs : List Statement)
    (all : Option Refusal) (whole : List BlockLine)
    → Reached s c ns (x ∷ xs) all whole
    → ((e : List BlockLine) → Counted c e → None ≡ line_fault s e (says x))
    → ((e : List BlockLine) (y : BlockLine) → line_ownership y ≡ ownership_of x → Counted c e → Counted after (e ++ y ∷ []))
    → Reached s after (drop 1 ns) xs all whole
reached_more s c after ns x xs all whole r fits counts =
    record {
      lines = r.lines ++ says x ∷ [];
      counted = counts r.lines (says x) refl r.counted;
      fault = sym (or_none (on_line (slice_index ns 0) (line_fault s r.lines (says x))) _ (ap (on_line (slice_index ns 0)) (sym (fits r.lines r.counted)))) ∙ r.fault;
      rest = append_assoc r.lines (says x ∷ []) (map says xs) ∙ r.rest;
    }

pub reached_fault : (s : Script) (c : Counts) (ns : List ℕ) (x : Statement) (xs : List Statement) (all : Option Refusal)
    (whole : List BlockLine) (reason : Reason)
    → Reached s c ns (x ∷ xs) all whole
    → ((e : List BlockLine) → Counted c e → Some reason ≡ line_fault s e (says x))
    → all ≡ Some (record { line = slice_index ns 0; reason = reason })
reached_fault s c ns x xs all whole reason r faulty =
    sym r.fault ∙ or_some (on_line (slice_index ns 0) (line_fault s r.lines (says x))) _ _ (ap (on_line (slice_index ns 0)) (sym (faulty r.lines r.counted)))

pub reached_end : (s : Script) (c : Counts) (ns : List ℕ) (all : Option Refusal) (whole : List BlockLine)
    → Reached s c ns [] all whole
    → (None ≡ all) × Counted c whole
reached_end s c ns all whole r = (r.fault, subst (Counted c) (sym (append-nil r.lines) ∙ r.rest) r.counted)

-- the same at a place of the lists
pub at_place : (s : Script) (c : Counts) (ns : List ℕ) (xs : List Statement) (i : ℕ) (x : Statement)
    (all : Option Refusal) (whole : List BlockLine)
    → i < length xs → x ≡ get_or xs i x → Reached s c (drop i ns) (drop i xs) all whole
    → Reached s c (drop i ns) (x ∷ drop (i + 1) xs) all whole
at_place s c ns xs i x all whole lt is r =
    subst (λ (ys : List Statement). Reached s c (drop i ns) ys all whole) (drop_more xs i x lt ∙ ap (λ (y : Statement). y ∷ drop (i + 1) xs) (sym is)) r

-- ---- words after `uses`

pub record Taking (setup own : Counts) (thread line : ℕ) (us : List Given) (all : Option Refusal) (packed claimed : List BlockLine) : Type 0 where
  pub before : List BlockLine
  pub mine : List BlockLine
  pub place : ℕ
  pub setup_counted : Counted setup before
  pub own_counted : Counted own mine
  pub fault : uses_fault before mine thread place line us ≡ all
  pub packs_rest : before ++ packs_from thread place us ≡ packed
  pub claims_rest : mine ++ claims_from place us ≡ claimed

pub taking_start : (setup own : Counts) (thread place line : ℕ) (us : List Given) (before mine : List BlockLine)
    → Counted setup before → Counted own mine
    → Taking setup own thread line us (uses_fault before mine thread place line us) (before ++ packs_from thread place us) (mine ++ claims_from place us)
taking_start setup own thread place line us before mine a b =
    record { before = before; mine = mine; place = place; setup_counted = a; own_counted = b; fault = refl; packs_rest = refl; claims_rest = refl }

pub taking_more : (setup own setup' own' : Counts) (thread line : ℕ) (u : Given) (us : List Given)
    (all : Option Refusal) (packed claimed : List BlockLine)
    → Taking setup own thread line (u ∷ us) all packed claimed
    → ((before mine : List BlockLine) → Counted setup before → Counted own mine → None ≡ given_fault before mine u.setup u.own)
    → ((before : List BlockLine) (thread place : ℕ) → Counted setup before → Counted setup' (before ++ packs thread place u.setup ∷ []))
    → ((mine : List BlockLine) (place : ℕ) → Counted own mine → Counted own' (mine ++ claims place u.own ∷ []))
    → Taking setup' own' thread line us all packed claimed
taking_more setup own setup' own' thread line u us all packed claimed t fits packing claiming =
    record {
      before = t.before ++ packs thread t.place u.setup ∷ [];
      mine = t.mine ++ claims t.place u.own ∷ [];
      place = t.place + 1;
      setup_counted = packing t.before thread t.place t.setup_counted;
      own_counted = claiming t.mine t.place t.own_counted;
      fault = sym (or_none (on_line line (given_fault t.before t.mine u.setup u.own)) _ (ap (on_line line) (sym (fits t.before t.mine t.setup_counted t.own_counted)))) ∙ t.fault;
      packs_rest = append_assoc t.before (packs thread t.place u.setup ∷ []) (packs_from thread (t.place + 1) us) ∙ t.packs_rest;
      claims_rest = append_assoc t.mine (claims t.place u.own ∷ []) (claims_from (t.place + 1) us) ∙ t.claims_rest;
    }

pub taking_fault : (setup own : Counts) (thread line : ℕ) (u : Given) (us : List Given) (all : Option Refusal)
    (packed claimed : List BlockLine) (reason : Reason)
    → Taking setup own thread line (u ∷ us) all packed claimed
    → ((before mine : List BlockLine) → Counted setup before → Counted own mine → Some reason ≡ given_fault before mine u.setup u.own)
    → all ≡ Some (record { line = line; reason = reason })
taking_fault setup own thread line u us all packed claimed reason t faulty =
    sym t.fault ∙ or_some (on_line line (given_fault t.before t.mine u.setup u.own)) _ _ (ap (on_line line) (sym (faulty t.before t.mine t.setup_counted t.own_counted)))

pub record Taken (setup own : Counts) (all : Option Refusal) (packed claimed : List BlockLine) : Type 0 where
  pub fault : None ≡ all
  pub setup_counted : Counted setup packed
  pub own_counted : Counted own claimed

pub taking_end : (setup own : Counts) (thread line : ℕ) (all : Option Refusal) (packed claimed : List BlockLine)
    → Taking setup own thread line [] all packed claimed
    → Taken setup own all packed claimed
taking_end setup own thread line all packed claimed t = record {
  fault = t.fault;
  setup_counted = subst (Counted setup) (sym (append-nil t.before) ∙ t.packs_rest) t.setup_counted;
  own_counted = subst (Counted own) (sym (append-nil t.mine) ∙ t.claims_rest) t.own_counted;
}

pub at_word : (setup own : Counts) (thread line : ℕ) (us : List Given) (i : ℕ) (u : Given) (all : Option Refusal)
    (packed claimed : List BlockLine)
    → i < length us → u ≡ get_or us i u → Taking setup own thread line (drop i us) all packed claimed
    → Taking setup own thread line (u ∷ drop (i + 1) us) all packed claimed
at_word setup own thread line us i u all packed claimed lt is t =
    subst (λ (vs : List Given). Taking setup own thread line vs all packed claimed) (drop_more us i u lt ∙ ap (λ (v : Given). v ∷ drop (i + 1) us) (sym is)) t

-- ---- threads

pub record Threading (s : Script) (setup : Counts) (bs : List Block) (all : Option Refusal) : Type 0 where
  pub before : List BlockLine
  pub thread : ℕ
  pub counted : Counted setup before
  pub fault : threads_fault s before thread bs ≡ all

pub threading_more : (s : Script) (setup setup' : Counts) (b : Block) (bs : List Block) (all : Option Refusal)
    → Threading s setup (b ∷ bs) all
    → ((before : List BlockLine) (thread : ℕ) → Counted setup before → None ≡ thread_block_fault s before thread b)
    → ((before : List BlockLine) (thread : ℕ) → Counted setup before → Counted setup' (before ++ packs_from thread 0 b.uses))
    → Threading s setup' bs all
threading_more s setup setup' b bs all t fits packing = record {
  before = t.before ++ packs_from t.thread 0 b.uses;
  thread = t.thread + 1;
  counted = packing t.before t.thread t.counted;
  fault = sym (or_none (thread_block_fault s t.before t.thread b) _ (sym (fits t.before t.thread t.counted))) ∙ t.fault;
}

pub threading_fault : (s : Script) (setup : Counts) (b : Block) (bs : List Block) (all : Option Refusal) (r : Refusal)
    → Threading s setup (b ∷ bs) all
    → ((before : List BlockLine) (thread : ℕ) → Counted setup before → Some r ≡ thread_block_fault s before thread b)
    → Some r ≡ all
threading_fault s setup b bs all r t faulty =
    sym (or_some (thread_block_fault s t.before t.thread b) _ r (sym (faulty t.before t.thread t.counted))) ∙ t.fault

pub at_block : (s : Script) (setup : Counts) (bs : List Block) (i : ℕ) (b : Block) (all : Option Refusal)
    → i < length bs → b ≡ get_or bs i b → Threading s setup (drop i bs) all → Threading s setup (b ∷ drop (i + 1) bs) all
at_block s setup bs i b all lt is t =
    subst (λ (cs : List Block). Threading s setup cs all) (drop_more bs i b lt ∙ ap (λ (c : Block). c ∷ drop (i + 1) bs) (sym is)) t

-- ---- at the end of the lists, and the room of counts

pub reached_last : (s : Script) (c : Counts) (ns : List ℕ) (xs : List Statement) (i : ℕ) (all : Option Refusal)
    (whole : List BlockLine)
    → length xs ≤ i → Reached s c ns (drop i xs) all whole → (None ≡ all) × Counted c whole
reached_last s c ns xs i all whole le r =
    reached_end s c ns all whole (subst (λ (ys : List Statement). Reached s c ns ys all whole) (drop_all i xs le) r)

pub taking_last : (setup own : Counts) (thread line : ℕ) (us : List Given) (i : ℕ) (all : Option Refusal)
    (packed claimed : List BlockLine)
    → length us ≤ i → Taking setup own thread line (drop i us) all packed claimed → Taken setup own all packed claimed
taking_last setup own thread line us i all packed claimed le t =
    taking_end setup own thread line all packed claimed (subst (λ (vs : List Given). Taking setup own thread line vs all packed claimed) (drop_all i us le) t)

pub room_at_least : (c : Counts) (n m : ℕ) → m ≤ n → HasRoom c n → HasRoom c m
room_at_least c n m le room = record {
  binds = λ v small. omega (arith, room.binds v small, le);
  gives = λ v small. omega (arith, room.gives v small, le);
  takes = λ v small. omega (arith, room.takes v small, le);
}

-- one more is left before a place than after it
pub one_left : {A : Type 0} (xs : List A) (i : ℕ) (d : A) → i < length xs
    → length (drop i xs) ≡ length (drop (i + 1) xs) + 1
one_left xs i d lt = omega (arith, ap length (drop_more xs i d lt))

-- a word after `uses` that is no variable of setup changes no count
pub packed_none : (c : Counts) (before : List BlockLine) (thread place : ℕ) → Counted c before
    → Counted c (before ++ packs thread place None ∷ [])
packed_none c before thread place counted =
    counted_more c c Keeps before (packs thread place None) refl counted (record {
      binds = λ v small. omega arith;
      gives = λ v small. omega arith;
      takes = λ v small. omega arith;
    })

-- a fault and none after it
pub or_nothing : {A : Type 0} (o : Option A) → o ≡ or_else o None
or_nothing None = refl
or_nothing (Some x) = refl
