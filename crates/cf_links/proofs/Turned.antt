-- Links that are turned round make the same lists, each from its end to its front. So what is proved of one side of a
-- node, or of one end of a list, holds of the other.
use Rattle.std.proofs.Common.{◌≡◌, ℕ, true, eqb, List, [], ◌∷◌, ◌++◌, map, set, reverse, Option, Some, None, cond, refl, sym, subst, ap, ap₂, ◌∙◌, arith, inl, inr}
use Rattle.std.proofs.lemmas.Bool.{cases_Bool}
use Rattle.std.proofs.lemmas.Grind.{flat_map-append}
use Rattle.std.proofs.lemmas.List.{append_assoc, reverse-append, reverse-reverse, append-nil, length-map, map-set}
use Rattle.std.proofs.lemmas.List.Sorted.{IsPermutation-reverse, list_any-IsPermutation}
use Rattle.cf_links.specs.Lists.{is_in, nodes_of, put_before, put_after}
use Rattle.cf_links.specs.Chain.{Web, next_from, prev_from, AreJoined, GoesOn, AreLists, Puts, mirror}
use Rattle.cf_links.proofs.Edits.{nodes_of-map}

-- a link onwards of the turned web is one backwards, and the other way round
pub turned_next : (w : Web) (l : ℕ) (x : Option ℕ) → next_from (mirror w) l x ≡ prev_from w l x
turned_next w l None = refl
turned_next w l (Some n) = refl

turned_prev : (w : Web) (l : ℕ) (x : Option ℕ) → prev_from (mirror w) l x ≡ next_from w l x
turned_prev w l None = refl
turned_prev w l (Some n) = refl

pub AreJoined-mirror : (w : Web) (l : ℕ) (from to : Option ℕ) → AreJoined w l from to → AreJoined (mirror w) l to from
AreJoined-mirror w l from to joined =
    record {
      onwards = turned_next w l to ∙ joined.backwards;
      backwards = turned_prev w l from ∙ joined.onwards;
    }

reverse-cons : (m : ℕ) (ms : List ℕ) → reverse (m ∷ ms) ≡ reverse ms ++ m ∷ []
reverse-cons m ms = reverse-append (m ∷ []) ms

-- the nodes that stand before `from` are `done`, the last first
goes_back : (w : Web) (l : ℕ) (from : Option ℕ) (ns done : List ℕ) → GoesOn w l from ns
    → ((to : Option ℕ) → AreJoined w l from to → GoesOn (mirror w) l to done)
    → GoesOn (mirror w) l None (reverse ns ++ done)
goes_back w l from [] done goes back = back None goes
goes_back w l from (m ∷ ms) done goes back =
    let moved : reverse (m ∷ ms) ++ done ≡ reverse ms ++ m ∷ done =
    ap (λ xs. xs ++ done) (reverse-cons m ms) ∙ append_assoc (reverse ms) (m ∷ []) done in
    subst (λ (xs : List ℕ). GoesOn (mirror w) l None xs) (sym moved)
    (goes_back w l (Some m) ms (m ∷ done) goes.2
    (λ to joined. (AreJoined-mirror w l (Some m) to joined, goes.1, back (Some m) goes.0)))

pub GoesOn-mirror : (w : Web) (l : ℕ) (ns : List ℕ) → GoesOn w l None ns → GoesOn (mirror w) l None (reverse ns)
GoesOn-mirror w l ns goes =
    subst (λ (xs : List ℕ). GoesOn (mirror w) l None xs) (append-nil (reverse ns))
    (goes_back w l None ns [] goes (λ to joined. AreJoined-mirror w l None to joined))

pub is_in-reverse : (n : ℕ) (ns : List ℕ) → is_in n ns ≡ true → is_in n (reverse ns) ≡ true
is_in-reverse n ns among = sym (list_any-IsPermutation (eqb n) ns (reverse ns) (IsPermutation-reverse ns)) ∙ among

pub AreLists-mirror : (w : Web) (lists : List (List ℕ)) → AreLists w lists → AreLists (mirror w) (map reverse lists)
AreLists-mirror w lists are =
    let nodes = nodes_of-map reverse refl lists in
    record {
      going = λ l made.
          rw (nodes l) (GoesOn-mirror w l (nodes_of lists l) (are.going l (omega (arith, length-map lists reverse))));
      listed = λ n l mark. rw (nodes l) (is_in-reverse n (nodes_of lists l) (are.listed n l mark));
      loose = λ n none. ((are.loose n none).1, (are.loose n none).0);
    }

pub Puts-mirror : (old new : Web) (l n : ℕ) (from to : Option ℕ) → Puts old new l n from to
    → Puts (mirror old) (mirror new) l n to from
Puts-mirror old new l n from to puts =
    record {
      before = AreJoined-mirror new l (Some n) to puts.after;
      after = AreJoined-mirror new l from (Some n) puts.before;
      mark = puts.mark;
      nexts = λ x other apart. turned_next new l x ∙ puts.prevs x other apart ∙ sym (turned_next old l x);
      prevs = λ x other apart. turned_prev new l x ∙ puts.nexts x other apart ∙ sym (turned_prev old l x);
      marks = puts.marks;
      firsts = puts.lasts;
      lasts = puts.firsts;
    }

-- ---- lists that are turned round twice
map_reverse_twice : (lists : List (List ℕ)) → map reverse (map reverse lists) ≡ lists
map_reverse_twice [] = refl
map_reverse_twice (ns ∷ rest) = ap₂ (λ xs xss. xs ∷ xss) (reverse-reverse ns) (map_reverse_twice rest)

-- a node at the end of the turned list is at the front of the list
pub first_by_turning : (lists : List (List ℕ)) (l n : ℕ)
    → map reverse (set (map reverse lists) l (nodes_of (map reverse lists) l ++ n ∷ []))
    ≡ set lists l (n ∷ nodes_of lists l)
first_by_turning lists l n =
    let turned_nodes = nodes_of (map reverse lists) l in
    let nodes : reverse (turned_nodes ++ n ∷ []) ≡ n ∷ nodes_of lists l =
    reverse-append turned_nodes (n ∷ [])
    ∙ ap (λ xs. n ∷ reverse xs) (nodes_of-map reverse refl lists l)
    ∙ ap (λ xs. n ∷ xs) (reverse-reverse (nodes_of lists l)) in
    map-set reverse (map reverse lists) l (turned_nodes ++ n ∷ [])
    ∙ ap₂ (λ xss xs. set xss l xs) (map_reverse_twice lists) nodes

-- a node right before another in the turned list is right after it in the list
after_by_test : (at n m : ℕ) (ms rest : List ℕ)
    → reverse (put_before at n ms) ≡ rest
    → reverse (put_before at n ms ++ cond (eqb at m) (n ∷ m ∷ []) (m ∷ []))
    ≡ cond (eqb at m) (m ∷ n ∷ []) (m ∷ []) ++ rest
after_by_test at n m ms rest later =
    elim (cases_Bool (eqb at m)) [
      | inl hit ↦ rw hit (reverse-append (put_before at n ms) (n ∷ m ∷ []) ∙ ap (λ xs. m ∷ n ∷ xs) later)
      | inr miss ↦ rw miss (reverse-append (put_before at n ms) (m ∷ []) ∙ ap (λ xs. m ∷ xs) later)
    ]

nodes_after_by_turning : (at n : ℕ) (ns : List ℕ) → reverse (put_before at n (reverse ns)) ≡ put_after at n ns
nodes_after_by_turning at n [] = refl
nodes_after_by_turning at n (m ∷ ms) =
    let one : ℕ → List ℕ = λ k. cond (eqb at k) (n ∷ k ∷ []) (k ∷ []) in
    ap (λ xs. reverse (put_before at n xs)) (reverse-cons m ms)
    ∙ ap reverse (flat_map-append one (reverse ms) (m ∷ []))
    ∙ ap (λ xs. reverse (put_before at n (reverse ms) ++ xs)) (append-nil (one m))
    ∙ after_by_test at n m (reverse ms) (put_after at n ms) (nodes_after_by_turning at n ms)

pub after_by_turning : (at n : ℕ) (lists : List (List ℕ))
    → map reverse (map (put_before at n) (map reverse lists)) ≡ map (put_after at n) lists
after_by_turning at n [] = refl
after_by_turning at n (ns ∷ rest) =
    ap₂ (λ xs xss. xs ∷ xss) (nodes_after_by_turning at n ns) (after_by_turning at n rest)
