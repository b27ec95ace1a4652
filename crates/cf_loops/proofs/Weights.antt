-- What the references of a loop's holdings weigh, and what references that leave weigh.
use Rattle.std.proofs.Common.{◌≡◌, ℕ, ◌+◌, ◌<◌, ◌≤◌, Bool, true, false, cond, ◌&&◌, ◌||◌, eqb, ltb, List, [], ◌∷◌, map, refl, sym, ap, ◌∙◌, subst, arith, inl, inr, min}
use Rattle.std.specs.List.{All, AllPairs}
use Rattle.std.proofs.lemmas.Bool.{cases_Bool, ltb-true, lt-ltb, and_parts, eqb-true}
use Rattle.std.proofs.lemmas.Bool.Decides.{eqb_tells, nat_tests}
use Rattle.std.proofs.lemmas.List.Folds.{list_any_none}
use Rattle.cf_ids.specs.declared.numbers.Item.{Item}
use Rattle.rl_base.specs.declared.places.Place.{Place}
use Rattle.rl_base.specs.declared.places.Place.TheVariants.{Common, Mode}
use Rattle.rl_base.specs.Modes.{rank}
use Rattle.rl_modes.specs.Loops.{Holding, is_of, holds_at, stands_before, with_one, with_these, in_each, each_in}
use Rattle.cf_graph.specs.Holders.{Holder, owed, in_mode, in_common}
use Rattle.cf_graph.specs.Edges.{Reference, held_by, same, weigh, one, counted}
use Rattle.cf_graph.specs.Operations.{without}
use Rattle.cf_graph.specs.Flows.{grows, flowed, IsThere}
use Rattle.cf_graph.proofs.Same.{same-equal, same-refl}
use Rattle.cf_graph.proofs.Counts.{weigh-without}
use Rattle.cf_graph.proofs.Flows.{holders_apart, one_own, weigh-flow}
use Rattle.cf_model.specs.Own.{present_of, moves_to}
use Rattle.cf_model.specs.Deals.{holder_at, held_at}
use Rattle.cf_model.proofs.Places.{moves_lost, moves_other}
use Rattle.cf_loops.specs.Edging.{references_of}
use Rattle.cf_loops.proofs.Ordering.{Before, pairs_head, pairs_tail}

-- ---- places as holders

-- the rank of the place that a holder is, and its thread
rank_in : Holder → ℕ
rank_in (in_mode t m) = m + 1
rank_in _ = 0

thread_in : Holder → ℕ
thread_in (in_mode t m) = t
thread_in (in_common t) = t
thread_in _ = 0

pub same_place : (p q : Place) → rank p ≡ rank q → p ≡ q
same_place Common Common e = refl
same_place Common (Mode m) e = absurd (omega (arith, e))
same_place (Mode m) Common e = absurd (omega (arith, e))
same_place (Mode m) (Mode n) e = let same : m ≡ n = omega (arith, e) in ap Mode same

rank_is : (t : ℕ) (q : Place) → rank_in (holder_at t q) ≡ rank q
unfolding rank_in
rank_is t Common = refl
rank_is t (Mode m) = refl

thread_is : (t : ℕ) (q : Place) → thread_in (holder_at t q) ≡ t
unfolding thread_in
thread_is t Common = refl
thread_is t (Mode m) = refl

pub places_apart : (t u : ℕ) (p q : Place) → (rank p ≡ rank q → ⊥) → holder_at t p ≡ holder_at u q → ⊥
places_apart t u p q apart e = apart (sym (rank_is t p) ∙ ap rank_in e ∙ rank_is u q)

pub threads_apart : (t u : ℕ) (p q : Place) → (t ≡ u → ⊥) → holder_at t p ≡ holder_at u q → ⊥
threads_apart t u p q apart e = apart (sym (thread_is t p) ∙ ap thread_in e ∙ thread_is u q)

-- the reference of a place to an item, weighed by another of the same loop
one_of : (t i j : ℕ) (p q : Place)
    → one (held_by (holder_at t q) i) (held_by (holder_at t p) j) ≡ counted (eqb (rank p) (rank q) && eqb j i)
one_of t i j p q = elim (eqb_tells (rank p) (rank q)) [
  | inl e ↦
      let here : one (held_by (holder_at t q) i) (held_by (holder_at t p) j) ≡ counted (eqb j i) =
      subst (λ (k : Place). one (held_by (holder_at t q) i) (held_by (holder_at t k) j) ≡ counted (eqb j i)) (sym (same_place p q e.1)) (one_own (holder_at t q) i j) in
      here ∙ ap (λ (b : Bool). counted (b && eqb j i)) (sym e.0)
  | inr e ↦
      holders_apart (held_by (holder_at t q) i) (held_by (holder_at t p) j) (λ r. places_apart t t p q e.1 (sym r))
      ∙ ap (λ (b : Bool). counted (b && eqb j i)) (sym e.0)
]

-- ---- lists of holdings

-- the references of another thread's loop
pub other_loop : (t u i : ℕ) (q : Place) (hs : List Holding) → (t ≡ u → ⊥)
    → weigh (one (held_by (holder_at t q) i)) (references_of u hs) ≡ 0
other_loop t u i q [] apart = refl
other_loop t u i q (h ∷ hs) apart =
    omega (arith, holders_apart (held_by (holder_at t q) i) (held_by (holder_at u h.place) h.item.id) (threads_apart t u q h.place apart), other_loop t u i q hs apart)

-- those of each place to an item, and of a place to each item
pub each_place : (t : ℕ) (i : Item) (ps : List Place) → references_of t (in_each i ps) ≡ held_at t i.id ps
each_place t i [] = refl
each_place t i (p ∷ ps) = ap (λ (rs : List Reference). held_by (holder_at t p) i.id ∷ rs) (each_place t i ps)

pub each_item : (t : ℕ) (p : Place) (is : List Item)
    → references_of t (each_in p is) ≡ map (held_by (holder_at t p)) (map (λ i. i.id) is)
each_item t p [] = refl
each_item t p (i ∷ is) = ap (λ (rs : List Reference). held_by (holder_at t p) i.id ∷ rs) (each_item t p is)

weigh-with_one : (g : Reference → ℕ) (t : ℕ) (n : Holding) (hs : List Holding)
    → weigh g (references_of t (with_one n hs)) ≡ weigh g (references_of t hs) + g (held_by (holder_at t n.place) n.item.id)
weigh-with_one g t n [] = omega arith
weigh-with_one g t n (h ∷ hs) = by (stands_before n.item.id n.place h) (weigh-with_one g t n hs)
  where
    by : (b : Bool)
        → weigh g (references_of t (with_one n hs)) ≡ weigh g (references_of t hs) + g (held_by (holder_at t n.place) n.item.id)
        → weigh g (references_of t (cond b (h ∷ with_one n hs) (n ∷ h ∷ hs))) ≡ weigh g (references_of t (h ∷ hs)) + g (held_by (holder_at t n.place) n.item.id)
    by true rest = omega (arith, rest)
    by false rest = omega arith

pub weigh-with_these : (g : Reference → ℕ) (t : ℕ) (ns hs : List Holding)
    → weigh g (references_of t (with_these ns hs)) ≡ weigh g (references_of t hs) + weigh g (references_of t ns)
weigh-with_these g t [] hs = omega arith
weigh-with_these g t (n ∷ ns) hs = omega (arith, weigh-with_these g t ns (with_one n hs), weigh-with_one g t n hs)

-- something is weighed exactly if it is held
pub held_weighs : (t i : ℕ) (q : Place) (hs : List Holding)
    → ltb 0 (weigh (one (held_by (holder_at t q) i)) (references_of t hs)) ≡ holds_at hs i q
held_weighs t i q [] = refl
held_weighs t i q (h ∷ hs) = by (is_of i q h) refl (one_of t i h.item.id h.place q) (held_weighs t i q hs)
  where
    by : (b : Bool) → is_of i q h ≡ b
        → one (held_by (holder_at t q) i) (held_by (holder_at t h.place) h.item.id) ≡ counted (is_of i q h)
        → ltb 0 (weigh (one (held_by (holder_at t q) i)) (references_of t hs)) ≡ holds_at hs i q
        → ltb 0 (weigh (one (held_by (holder_at t q) i)) (references_of t (h ∷ hs))) ≡ (is_of i q h || holds_at hs i q)
    by true e w rest = lt-ltb 0 _ (omega (arith, w, ap counted e)) ∙ ap (λ (b : Bool). b || holds_at hs i q) (sym e)
    by false e w rest =
        let none : one (held_by (holder_at t q) i) (held_by (holder_at t h.place) h.item.id) ≡ 0 = w ∙ ap counted e in
        let same : weigh (one (held_by (holder_at t q) i)) (references_of t (h ∷ hs)) ≡ weigh (one (held_by (holder_at t q) i)) (references_of t hs) = omega (arith, none) in
        ap (ltb 0) same ∙ rest ∙ ap (λ (b : Bool). b || holds_at hs i q) (sym e)

-- holdings in order have each item once in a place
none_after : (i : ℕ) (q : Place) (h : Holding) (hs : List Holding) → is_of i q h ≡ true → All (Before h) hs
    → holds_at hs i q ≡ false
none_after i q h hs t all = list_any_none (is_of i q) hs (λ k d lt. other (all k d lt))
  where
    other : {x : Holding} → Before h x → is_of i q x ≡ false
    other {x} b = by (is_of i q x) refl
      where
        by : (c : Bool) → is_of i q x ≡ c → c ≡ false
        by true e =
            let a = and_parts (eqb (rank h.place) (rank q)) (eqb h.item.id i) t in
            let d = and_parts (eqb (rank x.place) (rank q)) (eqb x.item.id i) e in
            let same : rank h.place ≡ rank x.place = eqb-true _ _ a.0 ∙ sym (eqb-true _ _ d.0) in
            absurd (omega (arith, b.seconds same, eqb-true h.item.id i a.1, eqb-true x.item.id i d.1))
        by false e = refl

pub held_once : (t i : ℕ) (q : Place) (hs : List Holding) → AllPairs Before hs
    → weigh (one (held_by (holder_at t q) i)) (references_of t hs) ≡ counted (holds_at hs i q)
held_once t i q [] pairs = refl
held_once t i q (h ∷ hs) pairs =
    by (is_of i q h) refl (one_of t i h.item.id h.place q) (held_once t i q hs (pairs_tail h hs pairs))
  where
    by : (b : Bool) → is_of i q h ≡ b
        → one (held_by (holder_at t q) i) (held_by (holder_at t h.place) h.item.id) ≡ counted (is_of i q h)
        → weigh (one (held_by (holder_at t q) i)) (references_of t hs) ≡ counted (holds_at hs i q)
        → weigh (one (held_by (holder_at t q) i)) (references_of t (h ∷ hs)) ≡ counted (is_of i q h || holds_at hs i q)
    by true e w rest =
        let none : holds_at hs i q ≡ false = none_after i q h hs e (pairs_head h hs pairs) in
        let here : one (held_by (holder_at t q) i) (held_by (holder_at t h.place) h.item.id) ≡ 1 = w ∙ ap counted e in
        let there : weigh (one (held_by (holder_at t q) i)) (references_of t hs) ≡ 0 = rest ∙ ap counted none in
        let both : counted (is_of i q h || holds_at hs i q) ≡ 1 = ap (λ (b : Bool). counted (b || holds_at hs i q)) e in
        omega (arith, here, there, both)
    by false e w rest =
        let here : one (held_by (holder_at t q) i) (held_by (holder_at t h.place) h.item.id) ≡ 0 = w ∙ ap counted e in
        let both : counted (is_of i q h || holds_at hs i q) ≡ counted (holds_at hs i q) = ap (λ (b : Bool). counted (b || holds_at hs i q)) e in
        omega (arith, here, rest, both)

-- ---- references that leave

-- of those that are asked for, those that are there, each as often as both have it
pub present_weighs : (rs es : List Reference) (r : Reference)
    → weigh (one r) (present_of rs es) ≡ min (weigh (one r) rs) (weigh (one r) es)
present_weighs [] es r = omega arith
present_weighs (q ∷ rs) es r = by (ltb 0 (weigh (one q) es)) refl (λ fs. present_weighs rs fs r)
  where
    by : (b : Bool) → ltb 0 (weigh (one q) es) ≡ b
        → ((fs : List Reference) → weigh (one r) (present_of rs fs) ≡ min (weigh (one r) rs) (weigh (one r) fs))
        → weigh (one r) (cond b (q ∷ present_of rs (without q es)) (present_of rs es)) ≡ min (weigh (one r) (q ∷ rs)) (weigh (one r) es)
    by true e rest = omega (arith, rest (without q es), weigh-without (one r) q es (ltb-true 0 (weigh (one q) es) e))
    by false e rest = elim (cases_Bool (same r q)) [
      | inl t ↦
          let is : r ≡ q = same-equal r q t in
          let none : weigh (one r) es ≡ 0 = ap (λ (p : Reference). weigh (one p) es) is ∙ zero_from (weigh (one q) es) e in
          omega (arith, rest es, none)
      | inr f ↦
          let none : one r q ≡ 0 = ap counted f in
          omega (arith, rest es, none)
    ]
      where
        zero_from : (n : ℕ) → ltb 0 n ≡ false → n ≡ 0
        zero_from n h = grind (arith, nat_tests)

-- what is all there is taken as it is
pub present_all : (rs es : List Reference) → ((r : Reference) → weigh (one r) rs ≤ weigh (one r) es)
    → present_of rs es ≡ rs
present_all [] es h = refl
present_all (q ∷ rs) es h =
    let own : one q q ≡ 1 = ap counted (same-refl q) in
    let here : 0 < weigh (one q) es = omega (arith, h q, own) in
    let test : ltb 0 (weigh (one q) es) ≡ true = lt-ltb 0 (weigh (one q) es) here in
    rw test (ap (λ (fs : List Reference). q ∷ fs) (present_all rs (without q es) (λ r. omega (arith, h r, weigh-without (one r) q es here))))

-- after references entered places, and others left them for a thread
pub place_weighs : (by : ℕ) (ins outs es : List Reference) (r : Reference) → ((k : ℕ) → r.holder ≡ owed k → ⊥)
    → ((q : Reference) → weigh (one q) outs ≤ weigh (one q) es)
    → weigh (one r) (flowed (grows ins (moves_to (owed by) outs)) es) + weigh (one r) outs ≡ weigh (one r) es + weigh (one r) ins
place_weighs by ins outs es r place there =
    let flow = grows ins (moves_to (owed by) outs) in
    let can : IsThere flow es = λ q. omega (arith, there q, moves_lost (owed by) (one q) outs) in
    omega (arith, weigh-flow (one r) flow es can, moves_lost (owed by) (one r) outs, moves_other (owed by) r outs (place by))
