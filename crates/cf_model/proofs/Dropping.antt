-- A finalised body gives up the first slot that is left to it.
use Rattle.std.proofs.Common.{◌≡◌, ℕ, zero, suc, ◌+◌, ◌<◌, ◌≤◌, Bool, true, false, cond, List, [], ◌∷◌, drop, Some, None, eqb, ltb, refl, sym, ap, ◌∙◌, subst, arith, inl, inr}
use Rattle.std.specs.Prelude.{slice_get, ◌&&◌}
use Rattle.std.proofs.lemmas.Bool.{eq-eqb, and_parts, eqb-true, ltb-true}
use Rattle.std.proofs.lemmas.Bool.Decides.{eqb_tells}
use Rattle.cf_syntax.specs.declared.script.Script.{Script}
use Rattle.cf_contents.specs.Contents.{times, slots_at}
use Rattle.cf_graph.specs.Holders.{slot, code_of}
use Rattle.cf_graph.specs.Edges.{Reference, held_by, same, weigh, one, counted}
use Rattle.cf_graph.proofs.Same.{same-equal}
use Rattle.cf_graph.proofs.Flows.{holders_apart, one_own}
use Rattle.cf_next.specs.Facts.{Facts}
use Rattle.cf_next.specs.Stands.{Frame, Work, Stand}
use Rattle.cf_next.specs.Demands.{Demand, drops, demand}
use Rattle.cf_model.specs.State.{State, left_of}
use Rattle.cf_model.specs.Known.{slot_left}
use Rattle.cf_model.specs.Steps.{drop_step}
use Rattle.cf_model.proofs.Views.{WorkView, first_owes, first_spends, first_drops, FrameView, is_call, is_line, is_end, is_return, is_phase, is_close, StandView, of_work, of_frame, stand_view}
use Rattle.cf_model.proofs.DealLaws.{AreSlotted}
use Rattle.cf_model.proofs.Fitting.{StepFits}

pub slot_parts : (b k o : ℕ) (st : State) → slot_left st.parts b k ≡ Some o
    → (0 < times b st.parts.finalised) × (k ≡ times b st.parts.dropped) × (slice_get (slots_at (slice_get st.parts.objects b)) k ≡ Some o)
slot_parts b k o st e = by (ltb 0 (times b st.parts.finalised) && eqb k (times b st.parts.dropped)) refl e
  where
    by : (test : Bool) → (ltb 0 (times b st.parts.finalised) && eqb k (times b st.parts.dropped)) ≡ test
        → cond test (slice_get (slots_at (slice_get st.parts.objects b)) k) None ≡ Some o
        → (0 < times b st.parts.finalised) × (k ≡ times b st.parts.dropped) × (slice_get (slots_at (slice_get st.parts.objects b)) k ≡ Some o)
    by true t q =
        let p = and_parts (ltb 0 (times b st.parts.finalised)) (eqb k (times b st.parts.dropped)) t in
        (ltb-true 0 (times b st.parts.finalised) p.0, eqb-true k (times b st.parts.dropped) p.1, q)
    by false t q = absurd cc

drop_at : (xs : List ℕ) (k o : ℕ) → slice_get xs k ≡ Some o → drop k xs ≡ o ∷ drop (k + 1) xs
drop_at [] k o e = absurd cc
drop_at (x ∷ xs) zero o e = ap (λ (y : ℕ). y ∷ xs) cc
drop_at (x ∷ xs) (suc k) o e =
    let more : suc k + 1 ≡ suc (k + 1) = omega arith in
    rw more (drop_at xs k o e)

module _ (b k o : ℕ) (st : State) (e : slot_left st.parts b k ≡ Some o) where
  abbrev slots : List ℕ
  slots = slots_at (slice_get st.parts.objects b)

  pub left_here : left_of st.parts.objects st.parts.dropped b ≡ o ∷ left_of st.parts.objects (b ∷ st.parts.dropped) b
  left_here =
      let p = slot_parts b k o st e in
      let own : times b (b ∷ st.parts.dropped) ≡ k + 1 = omega (arith, p.1, ap {B = ℕ} (λ (x : Bool). cond x 1 0) (eq-eqb b b refl)) in
      ap (λ (n : ℕ). drop n slots) (sym p.1) ∙ drop_at slots k o p.2 ∙ ap (λ (n : ℕ). o ∷ drop n slots) (sym own)

  pub slot_there : AreSlotted st → 0 < weigh (one (held_by (slot b) o)) st.edges
  slot_there held =
      let own : counted (eqb o o) ≡ 1 = ap (λ (x : Bool). cond x 1 0) (eq-eqb o o refl) in
      omega (arith, held b o, ap (times o) left_here, own)

  slot_given : (a q : ℕ)
      → times q (left_of st.parts.objects (b ∷ st.parts.dropped) a) + one (held_by (slot a) q) (held_by (slot b) o) ≡ times q (left_of st.parts.objects st.parts.dropped a) + 0
  slot_given a q = elim (eqb_tells b a) [
    | inl x ↦ subst (λ (d : ℕ). times q (left_of st.parts.objects (b ∷ st.parts.dropped) d) + one (held_by (slot d) q) (held_by (slot b) o) ≡ times q (left_of st.parts.objects st.parts.dropped d) + 0) x.1
        (omega (arith, ap (times q) left_here, one_own (slot b) q o))
    | inr x ↦
        let none : counted (eqb b a) ≡ 0 = ap counted x.0 in
        let same : times a (b ∷ st.parts.dropped) ≡ times a st.parts.dropped = omega (arith, none) in
        rw same (omega (arith, holders_apart (held_by (slot a) q) (held_by (slot b) o) (λ y. x.1 (sym (ap (λ h. (code_of h).first) y)))))
  ]

  one_there : (r : Reference) → AreSlotted st → one r (held_by (slot b) o) ≤ weigh (one r) st.edges
  one_there r held = by (same r (held_by (slot b) o)) refl
    where
      by : (t : Bool) → same r (held_by (slot b) o) ≡ t → counted t ≤ weigh (one r) st.edges
      by true q = subst (λ (p : Reference). 1 ≤ weigh (one p) st.edges) (sym (same-equal r (held_by (slot b) o) q)) (omega (arith, slot_there held))
      by false q = omega arith

  kept_up : (a : ℕ) → times a st.parts.finalised ≡ 0 → times a (b ∷ st.parts.dropped) ≡ times a st.parts.dropped
  kept_up a none = elim (eqb_tells b a) [
    | inl x ↦ absurd (omega (arith, (slot_parts b k o st e).0, none, ap (λ (n : ℕ). times n st.parts.finalised) x.1))
    | inr x ↦ let no : counted (eqb b a) ≡ 0 = ap counted x.0 in omega (arith, no)
  ]

  pub drop_fits : (t : ℕ) → AreSlotted st → StepFits t st (drop_step st b o)
  drop_fits t held = record {
    own = tt;
    there = λ r. one_there r held;
    finalised = refl;
    undropped = kept_up;
    flow = refl;
    slots = slot_given;
  }

-- ---- a demand to drop a slot is of one that is left

abbrev SlotOf : Facts → Demand → Type 0
SlotOf facts (drops b k o) = facts.slot b k ≡ Some o
SlotOf facts _ = Unit {0}

work_slot : (facts : Facts) (work : List Work) (d : Demand) → WorkView facts work d → SlotOf facts d
work_slot facts work _ (first_owes o h) = tt
work_slot facts work _ (first_spends i h) = tt
work_slot facts work _ (first_drops b k o e h) = e

frame_slot : (c : Script) (facts : Facts) (t : ℕ) (f : Frame) (d : Demand) → FrameView c facts t f d → SlotOf facts d
frame_slot c facts t f _ (is_call k called e) = tt
frame_slot c facts t f _ (is_line x e) = tt
frame_slot c facts t f _ (is_end e) = tt
frame_slot c facts t f _ (is_return k e end) = tt
frame_slot c facts t f _ (is_phase r p e) = tt
frame_slot c facts t f _ (is_close r e) = tt

stand_slot : (c : Script) (facts : Facts) (t : ℕ) (s : Stand) (d : Demand) → StandView c facts t s d → SlotOf facts d
stand_slot c facts t s d (of_work w view) = work_slot facts s.work d view
stand_slot c facts t s d (of_frame f fs w e view) = frame_slot c facts t f d view

pub demand_slot : (c : Script) (facts : Facts) (t : ℕ) (s : Stand) (b k o : ℕ) → demand c facts t s ≡ Some (drops b k o)
    → facts.slot b k ≡ Some o
demand_slot c facts t s b k o e = stand_slot c facts t s (drops b k o) (stand_view c facts t s (drops b k o) e)
