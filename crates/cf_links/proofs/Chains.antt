-- Lemmas on how links make lists, over plain functions and lists.
use Rattle.std.proofs.Common.{◌≡◌, ◌≢◌, ℕ, zero, suc, ◌≤◌, Bool, true, false, eqb, List, [], ◌∷◌, ◌++◌, length, reverse, Option, Some, None, cond, refl, sym, ap, ◌∙◌, arith, inl, inr}
use Rattle.std.specs.Option.{is_none}
use Rattle.std.specs.List.{IsDistinct, AllByRecursion}
use Rattle.std.proofs.lemmas.Bool.{cases_eq, cases_Bool, eq-eqb, ne_eqb, false≢true, false_from_ne_true, or_right, or_parts}
use Rattle.cf_links.specs.Lists.{is_in, node_after, node_before, put_before, without}
use Rattle.cf_links.specs.Chain.{Web, next_from, prev_from, AreJoined, GoesOn, Puts, Removes, mirror, walk}
use Rattle.cf_links.proofs.Turned.{AreJoined-mirror, GoesOn-mirror, is_in-reverse}

-- the nodes that the links lead to are the list's
pub walk_is : (w : Web) (l : ℕ) (from : Option ℕ) (ns : List ℕ) (steps : ℕ) → length ns ≤ steps → GoesOn w l from ns
    → walk steps w.next (next_from w l from) ≡ ns
walk_is w l from [] zero fits goes = refl
walk_is w l from [] (suc steps) fits goes = rw goes.onwards refl
walk_is w l from (n ∷ ns) zero fits goes = absurd (omega arith)
walk_is w l from (n ∷ ns) (suc steps) fits goes =
    rw goes.0.onwards (ap (λ ms. n ∷ ms) (walk_is w l (Some n) ns steps (omega arith) goes.2))

-- a node of the list has the list's mark
pub list_in : (w : Web) (l : ℕ) (from : Option ℕ) (ns : List ℕ) (n : ℕ) → GoesOn w l from ns → is_in n ns ≡ true
    → w.list n ≡ Some l
list_in w l from [] n goes among = absurd (false≢true among)
list_in w l from (m ∷ ms) n goes among =
    elim (cases_eq n m) [
      | inl same ↦ rw same goes.1
      | inr differs ↦ list_in w l (Some m) ms n goes.2 (rw (ne_eqb n m differs) at among)
    ]

-- the links of a node of the list lead to its neighbours
pub node_after_is : (w : Web) (l : ℕ) (from : Option ℕ) (ns : List ℕ) (n : ℕ) → GoesOn w l from ns → is_in n ns ≡ true
    → node_after n ns ≡ w.next n
node_after_is w l from [] n goes among = absurd (false≢true among)
node_after_is w l from (m ∷ []) n goes among =
    elim (cases_eq n m) [
      | inl same ↦ rw (eq-eqb n m same, same) (sym goes.2.onwards)
      | inr differs ↦ absurd (false≢true (rw (ne_eqb n m differs) at among))
    ]
node_after_is w l from (m ∷ k ∷ ms) n goes among =
    elim (cases_eq n m) [
      | inl same ↦ rw (eq-eqb n m same, same) (sym goes.2.0.onwards)
      | inr differs ↦ rw (ne_eqb n m differs) (node_after_is w l (Some m) (k ∷ ms) n goes.2
          (rw (ne_eqb n m differs) at among))
    ]

pub node_before_is : (w : Web) (l : ℕ) (from : Option ℕ) (ns : List ℕ) (n : ℕ) → GoesOn w l from ns → is_in n ns ≡ true
    → node_before from n ns ≡ w.prev n
node_before_is w l from [] n goes among = absurd (false≢true among)
node_before_is w l from (m ∷ ms) n goes among =
    elim (cases_eq n m) [
      | inl same ↦ rw (eq-eqb n m same, same) (sym goes.0.backwards)
      | inr differs ↦ rw (ne_eqb n m differs) (node_before_is w l (Some m) ms n goes.2
          (rw (ne_eqb n m differs) at among))
    ]

-- what links the two neighbours leave as it was stays joined
kept_joined : (old new : Web) (l : ℕ) (from to : Option ℕ) → AreJoined old l from to
    → next_from new l from ≡ next_from old l from → prev_from new l to ≡ prev_from old l to → AreJoined new l from to
kept_joined old new l from to joined onwards backwards =
    record { onwards = onwards ∙ joined.onwards; backwards = backwards ∙ joined.backwards }

-- the nodes, with n put in at each gap that passes the test
abbrev pub put_where : (Option ℕ → Option ℕ → Bool) → ℕ → Option ℕ → List ℕ → List ℕ
put_where gap n from [] = cond (gap from None) (n ∷ []) []
put_where gap n from (m ∷ ms) =
    cond (gap from (Some m)) (n ∷ m ∷ put_where gap n (Some m) ms) (m ∷ put_where gap n (Some m) ms)

-- the test passes at the gap between p and q, and only there
pub record FindsGap (gap : Option ℕ → Option ℕ → Bool) (w : Web) (l : ℕ) (p q : Option ℕ) : Type 0 where
  pub hits : (from to : Option ℕ) → AreJoined w l from to → gap from to ≡ true → (from ≡ p) × (to ≡ q)
  pub misses : (from to : Option ℕ) → AreJoined w l from to → gap from to ≡ false → (from ≢ p) × (to ≢ q)

-- whether a place in a list is this node
abbrev pub is_some_of : ℕ → Option ℕ → Bool
is_some_of at None = false
is_some_of at (Some m) = eqb at m

pub different : (n m : ℕ) → m ≢ n → Some m ≢ Some n
different n m differs same = absurd (grind arith)

pub put_goes : (old new : Web) (l n : ℕ) (p q : Option ℕ) (gap : Option ℕ → Option ℕ → Bool) → Puts old new l n p q
    → FindsGap gap old l p q → old.list n ≢ Some l → (from : Option ℕ) (ns : List ℕ) → from ≢ Some n
    → GoesOn old l from ns → GoesOn new l from (put_where gap n from ns)
put_goes old new l n p q gap puts finds outside from [] apart goes =
    elim (cases_Bool (gap from None)) [
      | inl hit ↦
          let found = finds.hits from None goes hit in
          rw (hit, found.0) (puts.before, puts.mark, rw found.1 puts.after)
      | inr miss ↦
          let other = finds.misses from None goes miss in
          rw miss (kept_joined old new l from None goes (puts.nexts from other.0 apart)
          (puts.prevs None other.1 (λ e. absurd (cc))))
    ]
put_goes old new l n p q gap puts finds outside from (m ∷ ms) apart goes =
    let differs : m ≢ n = λ e. outside (ap old.list (sym e) ∙ goes.1) in
    let rest = put_goes old new l n p q gap puts finds outside (Some m) ms (different n m differs) goes.2 in
    elim (cases_Bool (gap from (Some m))) [
      | inl hit ↦
          let found = finds.hits from (Some m) goes.0 hit in
          rw (hit, found.0) (puts.before, puts.mark, (rw found.1 puts.after, puts.marks m differs ∙ goes.1, rest))
      | inr miss ↦
          let other = finds.misses from (Some m) goes.0 miss in
          rw miss (
            kept_joined old new l from (Some m) goes.0 (puts.nexts from other.0 apart)
                (puts.prevs (Some m) other.1 (different n m differs)),
            puts.marks m differs ∙ goes.1,
            rest,
          )
    ]

-- two gaps: before a node, and at the end
pub put_where_before : (at n : ℕ) (from : Option ℕ) (ns : List ℕ)
    → put_where (λ x y. is_some_of at y) n from ns ≡ put_before at n ns
put_where_before at n from [] = refl
put_where_before at n from (m ∷ ms) =
    elim (cases_Bool (eqb at m)) [
      | inl hit ↦ rw (hit, put_where_before at n (Some m) ms) refl
      | inr miss ↦ rw (miss, put_where_before at n (Some m) ms) refl
    ]

pub put_where_back : (n : ℕ) (from : Option ℕ) (ns : List ℕ) → put_where (λ x y. is_none y) n from ns ≡ ns ++ n ∷ []
put_where_back n from [] = refl
put_where_back n from (m ∷ ms) = ap (λ ks. m ∷ ks) (put_where_back n (Some m) ms)

-- without n, from the node before it on where `from` is n
pub remove_goes : (old new : Web) (l n : ℕ) (p q : Option ℕ) → Removes old new l n p q → AreJoined old l p (Some n)
    → AreJoined old l (Some n) q → (from : Option ℕ) (ns : List ℕ) → GoesOn old l from ns
    → (from ≢ Some n → GoesOn new l from (without n ns)) × (from ≡ Some n → GoesOn new l p (without n ns))
remove_goes old new l n p q removes before after from [] goes = (
  λ apart. kept_joined old new l from None goes
      (removes.nexts from (λ e. let clash : None ≡ Some n = sym goes.onwards ∙ ap (next_from old l) e
      ∙ before.onwards in absurd (cc)) apart) (removes.prevs None
      (λ e. apart (sym goes.backwards ∙ ap (prev_from old l) e ∙ after.backwards)) (λ e. absurd (cc))),
  λ same. rw (sym goes.onwards ∙ ap (next_from old l) same ∙ after.onwards) removes.closed,
)
remove_goes old new l n p q removes before after from (m ∷ ms) goes =
    let rest = remove_goes old new l n p q removes before after (Some m) ms goes.2 in
    elim (cases_eq n m) [
      | inl same ↦
          let gone = rest.1 (ap Some (sym same)) in
          let was : from ≡ p = sym goes.0.backwards ∙ ap (λ k. prev_from old l (Some k)) (sym same)
          ∙ before.backwards in
          rw (eq-eqb n m same) (λ apart. rw was gone, λ _. gone)
      | inr differs ↦
          let apart_m = different n m (λ e. differs (sym e)) in
          let mark = removes.marks m (λ e. differs (sym e)) ∙ goes.1 in
          rw (ne_eqb n m differs) (
            λ apart. (
              kept_joined old new l from (Some m) goes.0
                  (removes.nexts from (λ e. apart_m (sym goes.0.onwards ∙ ap (next_from old l) e ∙ before.onwards))
                  apart)
                  (removes.prevs (Some m) (λ e. apart (sym goes.0.backwards ∙ ap (prev_from old l) e ∙ after.backwards))
                  apart_m),
              mark,
              rest.0 apart_m,
            ),
            λ same. (
              rw (sym goes.0.onwards ∙ ap (next_from old l) same ∙ after.onwards) removes.closed,
              mark,
              rest.0 apart_m,
            ),
          )
    ]

-- a list in which nothing changes stays
pub other_goes : (old new : Web) (l : ℕ)
    → ((m : ℕ) → old.list m ≡ Some l → (new.next m ≡ old.next m) × (new.prev m ≡ old.prev m)
    × (new.list m ≡ old.list m)) → new.last l ≡ old.last l → (from : Option ℕ) (ns : List ℕ)
    → next_from new l from ≡ next_from old l from → GoesOn old l from ns → GoesOn new l from ns
other_goes old new l same last from [] onwards goes = kept_joined old new l from None goes onwards last
other_goes old new l same last from (m ∷ ms) onwards goes =
    let at = same m goes.1 in (
      kept_joined old new l from (Some m) goes.0 onwards at.1,
      at.2 ∙ goes.1,
      other_goes old new l same last (Some m) ms at.0 goes.2,
    )

-- the neighbours of a node of the list are in the list, and joined to it
pub prev_marked : (w : Web) (l : ℕ) (from : Option ℕ) (ns : List ℕ) (n b : ℕ) → (from ≡ Some b → w.list b ≡ Some l)
    → GoesOn w l from ns → is_in n ns ≡ true → w.prev n ≡ Some b → w.list b ≡ Some l
prev_marked w l from [] n b start goes among found = absurd (false≢true among)
prev_marked w l from (m ∷ ms) n b start goes among found =
    elim (cases_eq n m) [
      | inl same ↦ start (sym goes.0.backwards ∙ ap w.prev (sym same) ∙ found)
      | inr differs ↦ prev_marked w l (Some m) ms n b (λ e. let here : m ≡ b = cc in rw (← here) goes.1) goes.2
          (rw (ne_eqb n m differs) at among) found
    ]

pub last_marked : (w : Web) (l : ℕ) (from : Option ℕ) (ns : List ℕ) (b : ℕ) → (from ≡ Some b → w.list b ≡ Some l)
    → GoesOn w l from ns → w.last l ≡ Some b → w.list b ≡ Some l
last_marked w l from [] b start goes found = start (sym goes.backwards ∙ found)
last_marked w l from (m ∷ ms) b start goes found =
    last_marked w l (Some m) ms b (λ e. let here : m ≡ b = cc in rw (← here) goes.1) goes.2 found

pub joined_before : (w : Web) (l : ℕ) (from : Option ℕ) (ns : List ℕ) (n : ℕ) → GoesOn w l from ns → is_in n ns ≡ true
    → AreJoined w l (w.prev n) (Some n)
joined_before w l from [] n goes among = absurd (false≢true among)
joined_before w l from (m ∷ ms) n goes among =
    elim (cases_eq n m) [
      | inl same ↦ rw (same, goes.0.backwards) goes.0
      | inr differs ↦ joined_before w l (Some m) ms n goes.2 (rw (ne_eqb n m differs) at among)
    ]

pub joined_last : (w : Web) (l : ℕ) (from : Option ℕ) (ns : List ℕ) → GoesOn w l from ns
    → AreJoined w l (w.last l) None
joined_last w l from [] goes = rw goes.backwards goes
joined_last w l from (m ∷ ms) goes = joined_last w l (Some m) ms goes.2

-- the same of the other side, by turning the links round
pub next_marked : (w : Web) (l : ℕ) (ns : List ℕ) (n b : ℕ) → GoesOn w l None ns → is_in n ns ≡ true
    → w.next n ≡ Some b
    → w.list b ≡ Some l
next_marked w l ns n b goes among found =
    prev_marked (mirror w) l None (reverse ns) n b (λ e. absurd (cc)) (GoesOn-mirror w l ns goes)
    (is_in-reverse n ns among) found

pub first_marked : (w : Web) (l : ℕ) (ns : List ℕ) (b : ℕ) → GoesOn w l None ns → w.first l ≡ Some b
    → w.list b ≡ Some l
first_marked w l ns b goes found =
    last_marked (mirror w) l None (reverse ns) b (λ e. absurd (cc)) (GoesOn-mirror w l ns goes) found

pub joined_after : (w : Web) (l : ℕ) (ns : List ℕ) (n : ℕ) → GoesOn w l None ns → is_in n ns ≡ true
    → AreJoined w l (Some n) (w.next n)
joined_after w l ns n goes among =
    AreJoined-mirror (mirror w) l (w.next n) (Some n)
    (joined_before (mirror w) l None (reverse ns) n (GoesOn-mirror w l ns goes) (is_in-reverse n ns among))

-- a test of one side finds the gap between two that are joined
pub finds_by_to : (gap : Option ℕ → Option ℕ → Bool) (w : Web) (l : ℕ) (p q : Option ℕ) → AreJoined w l p q
    → ((x y : Option ℕ) → gap x y ≡ true → y ≡ q) → ((x y : Option ℕ) → gap x y ≡ false → y ≢ q) → FindsGap gap w l p q
finds_by_to gap w l p q joined hit miss =
    record {
      hits = λ from to here passes. (
        sym here.backwards ∙ ap (prev_from w l) (hit from to passes) ∙ joined.backwards,
        hit from to passes,
      );
      misses = λ from to here fails. (
        λ e. miss from to fails
            (sym here.onwards ∙ ap (next_from w l) e ∙ joined.onwards),
        miss from to fails,
      );
    }

-- no node comes twice
node_before_else : (front from : Option ℕ) (n : ℕ) (ms : List ℕ) → is_in n ms ≡ true → front ≢ from
    → ((k : ℕ) → is_in k ms ≡ true → Some k ≢ from) → node_before front n ms ≢ from
node_before_else front from n [] among apart fresh = absurd (false≢true among)
node_before_else front from n (m ∷ ms) among apart fresh =
    elim (cases_eq n m) [
      | inl same ↦ rw (eq-eqb n m same) apart
      | inr differs ↦
          rw (ne_eqb n m differs) (
          node_before_else (Some m) from n ms (rw (ne_eqb n m differs) at among) (fresh m (rw (eq-eqb m m refl) refl))
          (λ k later. fresh k (or_right (eqb k m) (is_in k ms) later))
          )
    ]

apart_from_test : (n : ℕ) (ms : List ℕ) → is_in n ms ≡ false → AllByRecursion (λ m. eqb n m ≡ false) ms
apart_from_test n [] none = tt
apart_from_test n (m ∷ ms) none =
    let parts = or_parts (eqb n m) (is_in n ms) none in (parts.0, apart_from_test n ms parts.1)

distinct_from : (w : Web) (l : ℕ) (from : Option ℕ) (ns : List ℕ) → ((k : ℕ) → is_in k ns ≡ true → Some k ≢ from)
    → GoesOn w l from ns → IsDistinct eqb ns
unfolding IsDistinct
distinct_from w l from [] fresh goes = tt
distinct_from w l from (m ∷ ms) fresh goes =
    let once : is_in m ms ≡ false = false_from_ne_true (is_in m ms) (λ again.
    node_before_else (Some m) from m ms again (fresh m (rw (eq-eqb m m refl) refl))
    (λ k later. fresh k (or_right (eqb k m) (is_in k ms) later))
    (node_before_is w l (Some m) ms m goes.2 again ∙ goes.0.backwards)) in (
      apart_from_test m ms once,
      distinct_from w l (Some m) ms (λ k later same. let here : k ≡ m = cc in false≢true (sym once ∙ rw here at later))
          goes.2,
    )

pub distinct : (w : Web) (l : ℕ) (ns : List ℕ) → GoesOn w l None ns → IsDistinct eqb ns
distinct w l ns goes = distinct_from w l None ns (λ k later same. absurd (cc)) goes
