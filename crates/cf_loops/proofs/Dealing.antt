-- Loops after a deal by which references enter places of one loop or leave them.
use Rattle.std.proofs.Common.{◌≡◌, ℕ, ◌+◌, ◌<◌, ◌≤◌, Bool, true, false, not, ◌&&◌, eqb, ltb, List, [], ◌∷◌, length, min, set, get_or-set_same, get_or-set_other, length-set, refl, sym, ap, ◌∙◌, subst, arith, inl, inr}
use Rattle.std.specs.List.{list_any, All}
use Rattle.std.proofs.lemmas.Bool.{and_parts, eqb-true, ltb-true, ltb-false}
use Rattle.std.proofs.lemmas.Bool.Decides.{eqb_tells, nat_tests}
use Rattle.std.proofs.lemmas.List.Elements.{All-filter, All-head, All-tail}
use Rattle.std.proofs.lemmas.Map.Views.{any-filter_same}
use Rattle.cf_ids.specs.declared.numbers.Item.{Item}
use Rattle.cf_ids.specs.declared.numbers.ItemKind.TheVariants.{Source}
use Rattle.rl_base.specs.declared.places.Place.{Place}
use Rattle.rl_base.specs.declared.places.Place.TheVariants.{Common, Mode}
use Rattle.rl_base.specs.Modes.{rank}
use Rattle.rl_modes.specs.Loops.{Holding, Loop, is_of, holds_at, with_one, with_these, without, in_each}
use Rattle.rl_modes.specs.Fields.{IsOrdered}
use Rattle.cf_syntax.specs.declared.script.Script.{Script}
use Rattle.cf_graph.specs.Holders.{owed}
use Rattle.cf_graph.specs.Edges.{Reference, held_by, weigh, one, counted}
use Rattle.cf_graph.specs.Flows.{grows, flowed}
use Rattle.cf_model.specs.State.{Parts}
use Rattle.cf_model.specs.Own.{present_of, moves_to}
use Rattle.cf_model.specs.Deals.{holder_at, held_at, common_modes}
use Rattle.cf_model.proofs.OwnLaws.{present_there}
use Rattle.cf_loops.specs.Following.{KeepsKinds, AreLoops, IsLoop, IsItem, loop_at, no_loop}
use Rattle.cf_loops.specs.Edging.{references_of}
use Rattle.cf_loops.proofs.Ordering.{all_with_one, ordered_filter}
use Rattle.cf_loops.proofs.Telling.{items_kept}
use Rattle.cf_loops.proofs.Weights.{other_loop, each_place, weigh-with_these, held_weighs, held_once, present_weighs, place_weighs}

-- ---- holdings that come

pub all_with_these : (P : Holding → Type 0) (ns hs : List Holding) → All P ns → All P hs → All P (with_these ns hs)
all_with_these P [] hs new all = all
all_with_these P (n ∷ ns) hs new all =
    all_with_these P ns (with_one n hs) (All-tail P n ns new) (all_with_one P n hs (All-head P n ns new) all)

loop_gets : (s : Script) (p q : Parts) (es fs : List Reference) (t : ℕ) (l m : Loop) (ns : List Holding)
    → KeepsKinds p.objects q.objects → IsLoop s p es t l
    → m.held ≡ with_these ns l.held → IsOrdered m.held → All (IsItem s q) ns
    → ((k : Place) (i : ℕ) → weigh (one (held_by (holder_at t k) i)) fs ≡ weigh (one (held_by (holder_at t k) i)) es + weigh (one (held_by (holder_at t k) i)) (references_of t ns))
    → IsLoop s q fs t m
loop_gets s p q es fs t l m ns kinds h is order new refs = record {
  held = λ k i.
      let g : Reference → ℕ = one (held_by (holder_at t k) i) in
      let now : weigh g (references_of t m.held) ≡ weigh g (references_of t l.held) + weigh g (references_of t ns) =
      ap (λ (hs : List Holding). weigh g (references_of t hs)) is ∙ weigh-with_these g t ns l.held in
      omega (arith, now, refs k i, h.held k i, held_once t i k l.held h.ordered.in_order, held_once t i k m.held order.in_order);
  items = subst (All (IsItem s q)) (sym is) (all_with_these (IsItem s q) ns l.held new (items_kept s p q l.held kinds h.items));
  ordered = order;
}

-- ---- holdings that go

eqb_turned : (a b c d : ℕ) → a ≡ b → (eqb a c) ≡ (eqb c b)
eqb_turned a b c d e = grind (arith, nat_tests)

gone_same : (i j : ℕ) (q : Place) (h : Holding) (ps : List Place) → is_of j q h ≡ true
    → list_any (λ p. is_of i p h) ps ≡ holds_at (in_each (record { id = i; kind = Source }) ps) j q
gone_same i j q h [] is = refl
gone_same i j q h (p ∷ ps) is =
    let both = and_parts (eqb (rank h.place) (rank q)) (eqb h.item.id j) is in
    let a : eqb (rank h.place) (rank p) ≡ eqb (rank p) (rank q) = eqb_turned (rank h.place) (rank q) (rank p) 0 (eqb-true _ _ both.0) in
    let b : eqb h.item.id i ≡ eqb i j = eqb_turned h.item.id j i 0 (eqb-true _ _ both.1) in
    rw (a, b, gone_same i j q h ps is) refl

numbers_left : (b g : Bool) (w n : ℕ) → ltb 0 w ≡ g → n + min w (counted b) ≡ counted b → n ≡ counted (not g && b)
numbers_left true true w n t e = let some : 0 < w = ltb-true 0 w t in omega arith
numbers_left true false w n t e = let none : w ≤ 0 = ltb-false 0 w t in omega arith
numbers_left false true w n t e = omega arith
numbers_left false false w n t e = omega arith

holds-without : (i j : ℕ) (q : Place) (ps : List Place) (hs : List Holding)
    → holds_at (without i ps hs) j q ≡ (not (holds_at (in_each (record { id = i; kind = Source }) ps) j q) && holds_at hs j q)
holds-without i j q ps hs =
    any-filter_same (is_of j q) (λ h. not (list_any (λ p. is_of i p h) ps)) (not (holds_at (in_each (record { id = i; kind = Source }) ps) j q))
    (λ h t. ap not (gone_same i j q h ps t)) hs

pub loop_loses : (s : Script) (p q : Parts) (es fs : List Reference) (t i : ℕ) (l m : Loop) (ps : List Place)
    → KeepsKinds p.objects q.objects → IsLoop s p es t l
    → m.held ≡ without i ps l.held
    → ((k : Place) (j : ℕ) → weigh (one (held_by (holder_at t k) j)) fs + min (weigh (one (held_by (holder_at t k) j)) (held_at t i ps)) (weigh (one (held_by (holder_at t k) j)) es) ≡ weigh (one (held_by (holder_at t k) j)) es)
    → IsLoop s q fs t m
loop_loses s p q es fs t i l m ps kinds h is refs = record {
  held = λ k j.
      let r = held_by (holder_at t k) j in
      let item : Item = record { id = i; kind = Source } in
      let w = weigh (one r) (held_at t i ps) in
      let test : ltb 0 w ≡ holds_at (in_each item ps) j k =
      ap (λ (rs : List Reference). ltb 0 (weigh (one r) rs)) (sym (each_place t item ps)) ∙ held_weighs t j k (in_each item ps) in
      let left : weigh (one r) fs + min w (counted (holds_at l.held j k)) ≡ counted (holds_at l.held j k) =
      subst (λ (n : ℕ). weigh (one r) fs + min w n ≡ n) (h.held k j) (refs k j) in
      numbers_left (holds_at l.held j k) (holds_at (in_each item ps) j k) w (weigh (one r) fs) test left
      ∙ ap counted (sym (holds-without i j k ps l.held) ∙ ap (λ (hs : List Holding). holds_at hs j k) (sym is));
  items = subst (All (IsItem s q)) (sym is) (All-filter (λ h. not (list_any (λ p. is_of i p h) ps)) (IsItem s q) l.held (items_kept s p q l.held kinds h.items));
  ordered = subst IsOrdered (sym is) (ordered_filter (λ h. not (list_any (λ p. is_of i p h) ps)) l.held h.ordered);
}

-- ---- all loops, of which one is changed

pub no_owed : (t k : ℕ) (q : Place) → holder_at t q ≡ owed k → ⊥
no_owed t k Common e = absurd cc
no_owed t k (Mode m) e = absurd cc

module _ (s : Script) (p q : Parts) (es fs : List Reference) (loops : List Loop) (u : ℕ) (m : Loop) (h : AreLoops s p es loops) (within : u < length loops) (kinds : KeepsKinds p.objects q.objects) where
  pub one_changed : ((t : ℕ) → (t ≡ u → ⊥) → (k : Place) (i : ℕ) → weigh (one (held_by (holder_at t k) i)) fs ≡ weigh (one (held_by (holder_at t k) i)) es)
      → IsLoop s q fs u m → ((t : ℕ) → (t ≡ u → ⊥) → common_modes s t q ≡ common_modes s t p) → m.common_modes ≡ common_modes s u q
      → AreLoops s q fs (set loops u m)
  one_changed others own commons own_commons = record {
    threads = length-set loops u m ∙ h.threads;
    few = h.few;
    loops_are = λ t. elim (eqb_tells t u) [
      | inl e ↦ subst (λ (v : ℕ). IsLoop s q fs v (loop_at v (set loops u m))) (sym e.1) (subst (IsLoop s q fs u) (sym (get_or-set_same loops u m no_loop within)) own)
      | inr e ↦ subst (IsLoop s q fs t) (sym (get_or-set_other loops u t m no_loop e.1)) (same t (others t e.1) (h.loops_are t))
    ];
    commons = λ t lt. elim (eqb_tells t u) [
      | inl e ↦ subst (λ (v : ℕ). (loop_at v (set loops u m)).common_modes ≡ common_modes s v q) (sym e.1) (ap (λ (l : Loop). l.common_modes) (get_or-set_same loops u m no_loop within) ∙ own_commons)
      | inr e ↦ ap (λ (l : Loop). l.common_modes) (get_or-set_other loops u t m no_loop e.1) ∙ h.commons t lt ∙ sym (commons t e.1)
    ];
  }
    where
      same : (t : ℕ)
          → ((k : Place) (i : ℕ) → weigh (one (held_by (holder_at t k) i)) fs ≡ weigh (one (held_by (holder_at t k) i)) es)
          → IsLoop s p es t (loop_at t loops) → IsLoop s q fs t (loop_at t loops)
      same t refs is = record {
        held = λ k i. refs k i ∙ is.held k i;
        items = items_kept s p q (loop_at t loops).held kinds is.items;
        ordered = is.ordered;
      }

-- holdings come into a loop, and references into its places
pub loops_get : (s : Script) (p q : Parts) (es : List Reference) (loops : List Loop) (by u : ℕ) (m : Loop)
    (ns : List Holding)
    → AreLoops s p es loops → u < length loops → KeepsKinds p.objects q.objects
    → m.held ≡ with_these ns (loop_at u loops).held → IsOrdered m.held → All (IsItem s q) ns
    → ((t : ℕ) → (t ≡ u → ⊥) → common_modes s t q ≡ common_modes s t p) → m.common_modes ≡ common_modes s u q
    → AreLoops s q (flowed (grows (references_of u ns) (moves_to (owed by) [])) es) (set loops u m)
loops_get s p q es loops by u m ns h within kinds is order new commons own_commons =
    let fs = flowed (grows (references_of u ns) (moves_to (owed by) [])) es in
    let came : (t : ℕ) (k : Place) (i : ℕ) → weigh (one (held_by (holder_at t k) i)) fs ≡ weigh (one (held_by (holder_at t k) i)) es + weigh (one (held_by (holder_at t k) i)) (references_of u ns) =
    λ t k i. omega (arith, place_weighs by (references_of u ns) [] es (held_by (holder_at t k) i) (λ n. no_owed t n k) (λ r. omega arith)) in
    one_changed s p q es fs loops u m h within kinds
    (λ t apart k i. omega (arith, came t k i, other_loop t u i k ns apart))
    (loop_gets s p q es fs u (loop_at u loops) m ns kinds (h.loops_are u) is order new (came u)) commons own_commons

-- an item leaves places of a loop, and references to it leave them for a thread
pub loops_lose : (s : Script) (p : Parts) (es : List Reference) (loops : List Loop) (by u i : ℕ) (m : Loop)
    (ps : List Place)
    → AreLoops s p es loops → u < length loops
    → m.held ≡ without i ps (loop_at u loops).held → m.common_modes ≡ (loop_at u loops).common_modes
    → AreLoops s p (flowed (grows [] (moves_to (owed by) (present_of (held_at u i ps) es))) es) (set loops u m)
loops_lose s p es loops by u i m ps h within is same =
    let rs = held_at u i ps in
    let fs = flowed (grows [] (moves_to (owed by) (present_of rs es))) es in
    let went : (t : ℕ) (k : Place) (j : ℕ) → weigh (one (held_by (holder_at t k) j)) fs + min (weigh (one (held_by (holder_at t k) j)) rs) (weigh (one (held_by (holder_at t k) j)) es) ≡ weigh (one (held_by (holder_at t k) j)) es =
    λ t k j. let r = held_by (holder_at t k) j in omega (arith, place_weighs by [] (present_of rs es) es r (λ n. no_owed t n k) (present_there rs es), present_weighs rs es r) in
    one_changed s p p es fs loops u m h within (λ j k e. e)
    (λ t apart k j.
    let item : Item = record { id = i; kind = Source } in
    let none : weigh (one (held_by (holder_at t k) j)) rs ≡ 0 = ap (weigh (one (held_by (holder_at t k) j))) (sym (each_place u item ps)) ∙ other_loop t u j k (in_each item ps) apart in
    omega (arith, went t k j, none))
    (loop_loses s p p es fs u i (loop_at u loops) m ps (λ j k e. e) (h.loops_are u) is (went u))
    (λ t apart. refl) (same ∙ h.commons u (subst (λ (n : ℕ). u < n) h.threads within))
