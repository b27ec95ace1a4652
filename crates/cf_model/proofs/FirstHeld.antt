-- The object that a holder has first: where there is none, what changes it and what passes it by, and places of
-- parcels told apart.
use Rattle.std.proofs.Common.{◌≡◌, ℕ, ◌<◌, ◌≤◌, ◌∙◌, Bool, true, false, cond, List, [], ◌∷◌, Option, Some, None, refl, sym, ap, eqb, arith}
use Rattle.std.specs.Prelude.{◌&&◌}
use Rattle.cf_graph.specs.Holders.{Holder, variable, callout, owed, parcel, slot, in_mode, in_common, same_holder}
use Rattle.cf_graph.specs.Edges.{Reference, held_by, weigh, one, counted, same}
use Rattle.cf_graph.specs.Operations.{moved, without}
use Rattle.cf_graph.specs.Flows.{Flow, grows, shrinks, flowed}
use Rattle.cf_graph.proofs.Counts.{weigh-without}
use Rattle.cf_graph.proofs.Same.{same_holder-equal, same_holder-refl, same-equal, same-refl}
use Rattle.cf_model.specs.State.{first_held}
use Rattle.cf_model.specs.Steps.{found}
use Rattle.cf_model.specs.Parcels.{from_holder, HasOneAtMost}

-- ---- what a holder has first

module _ (h : Holder) where
  pub held_nothing : (es : List Reference) → weigh (from_holder h) es ≡ 0 → first_held h es ≡ None
  held_nothing [] e = refl
  held_nothing (r ∷ es) e = by (same_holder h r.holder) refl (held_nothing es (omega (arith, e)))
    where
      by : (b : Bool) → same_holder h r.holder ≡ b → first_held h es ≡ None
          → cond b (Some r.object) (first_held h es) ≡ None
      by true q rest = let here : from_holder h r ≡ 1 = ap counted q in absurd (omega (arith, e, here))
      by false q rest = rest

  one_own : (o : ℕ) (r : Reference) → one (held_by h o) r ≤ from_holder h r
  one_own o r = by (same_holder h r.holder) (eqb o r.object)
    where
      by : (a b : Bool) → counted (a && b) ≤ counted a
      by true true = omega arith
      by true false = omega arith
      by false b = omega arith

  pub one_of_holder : (o : ℕ) (es : List Reference) → weigh (one (held_by h o)) es ≤ weigh (from_holder h) es
  one_of_holder o [] = omega arith
  one_of_holder o (r ∷ es) = omega (arith, one_own o r, one_of_holder o es)

  pub nothing_held : (es : List Reference) → first_held h es ≡ None → weigh (from_holder h) es ≡ 0
  nothing_held [] e = refl
  nothing_held (r ∷ es) e = by (same_holder h r.holder) refl e (nothing_held es)
    where
      by : (b : Bool) → same_holder h r.holder ≡ b → cond b (Some r.object) (first_held h es) ≡ None
          → (first_held h es ≡ None → weigh (from_holder h) es ≡ 0) → weigh (from_holder h) (r ∷ es) ≡ 0
      by true q found rest = absurd cc
      by false q found rest = let none : from_holder h r ≡ 0 = ap counted q in omega (arith, none, rest found)

  own_reference_is : (r : Reference) (o : ℕ) → same_holder h r.holder ≡ true
      → ◌≡◌ {A = Option ℕ} (Some r.object) (Some o) → held_by h o ≡ r
  own_reference_is r o q found =
      let object : o ≡ r.object = cc in
      ap (λ (k : Holder). held_by k o) (same_holder-equal h r.holder q) ∙ ap (λ (n : ℕ). held_by r.holder n) object

  pub first_there : (o : ℕ) (es : List Reference) → first_held h es ≡ Some o → 0 < weigh (one (held_by h o)) es
  first_there o [] e = absurd cc
  first_there o (r ∷ es) e = by (same_holder h r.holder) refl e (first_there o es)
    where
      by : (b : Bool) → same_holder h r.holder ≡ b → cond b (Some r.object) (first_held h es) ≡ Some o
          → (first_held h es ≡ Some o → 0 < weigh (one (held_by h o)) es) → 0 < weigh (one (held_by h o)) (r ∷ es)
      by true q found rest =
          let is : one (held_by h o) r ≡ 1 = ap (λ (x : Reference). one x r) (own_reference_is r o q found) ∙ ap counted (same-refl r) in
          omega (arith, is)
      by false q found rest = omega (arith, rest found)

  pub one_at_most : (es : List Reference) → weigh (from_holder h) es ≤ 1 → HasOneAtMost h es
  one_at_most es few = record {
    few = few;
    gone = λ o e. held_nothing (without (held_by h o) es) (left_none o e);
    none = λ e o. no_more (weigh (one (held_by h o)) es) (weigh (from_holder h) es) (one_of_holder o es) (nothing_held es e);
  }
    where
      no_more : (a b : ℕ) → a ≤ b → b ≡ 0 → a ≡ 0
      no_more a b le e = omega (arith, le, e)

      left_none : (o : ℕ) → first_held h es ≡ Some o → weigh (from_holder h) (without (held_by h o) es) ≡ 0
      left_none o e =
          let own : from_holder h (held_by h o) ≡ 1 = ap counted (same_holder-refl h) in
          omega (arith, few, own, weigh-without (from_holder h) (held_by h o) es (first_there o es e))

  -- ---- what changes it

  pub first_other : (r : Reference) (es : List Reference) → same_holder h r.holder ≡ false
      → first_held h (r ∷ es) ≡ first_held h es
  first_other r es e = ap (λ (b : Bool). cond b (Some r.object) (first_held h es)) e

  pub first_own : (r : Reference) (es : List Reference) → same_holder h r.holder ≡ true
      → first_held h (r ∷ es) ≡ Some r.object
  first_own r es e = ap (λ (b : Bool). cond b (Some r.object) (first_held h es)) e

  pub first_without : (r : Reference) (es : List Reference) → same_holder h r.holder ≡ false
      → first_held h (without r es) ≡ first_held h es
  first_without r [] e = refl
  first_without r (q ∷ es) e = by (same r q) refl (first_without r es e)
    where
      by : (b : Bool) → same r q ≡ b → first_held h (without r es) ≡ first_held h es
          → first_held h (cond b es (q ∷ without r es)) ≡ first_held h (q ∷ es)
      by true t rest = sym (first_other q es (ap (λ (x : Reference). same_holder h x.holder) (sym (same-equal r q t)) ∙ e))
      by false t rest = ap (λ (o : Option ℕ). cond (same_holder h q.holder) (Some q.object) o) rest

  pub first_moved : (r : Reference) (k : Holder) (es : List Reference) → same_holder h r.holder ≡ false
      → same_holder h k ≡ false → first_held h (moved r k ∷ without r es) ≡ first_held h es
  first_moved r k es from to = first_other (moved r k) (without r es) to ∙ first_without r es from

  pub first_moved_here : (r : Reference) (es : List Reference) → first_held h (moved r h ∷ without r es) ≡ Some r.object
  first_moved_here r es = first_own (moved r h) (without r es) (same_holder-refl h)

  -- a flow that neither brings the holder a reference nor takes it one
  abbrev pub PassesBy : Flow → Type 0
  PassesBy (grows [] []) = Unit {0}
  PassesBy (grows [] (m ∷ ms)) = (same_holder h m.from.holder ≡ false) × (same_holder h m.to ≡ false) × PassesBy (grows [] ms)
  PassesBy (grows (r ∷ rs) ms) = (same_holder h r.holder ≡ false) × PassesBy (grows rs ms)
  PassesBy (shrinks r) = same_holder h r.holder ≡ false

  pub first_flowed : (f : Flow) (es : List Reference) → PassesBy f → first_held h (flowed f es) ≡ first_held h es
  first_flowed (grows [] []) es p = refl
  first_flowed (grows [] (m ∷ ms)) es p =
      first_flowed (grows [] ms) (moved m.from m.to ∷ without m.from es) p.2 ∙ first_moved m.from m.to es p.0 p.1
  first_flowed (grows (r ∷ rs) ms) es p = first_flowed (grows rs ms) (r ∷ es) p.1 ∙ first_other r es p.0
  first_flowed (shrinks r) es p = first_without r es p

-- a holder that is no place of a parcel
abbrev pub NoParcel : Holder → Type 0
NoParcel (parcel u k) = ⊥
NoParcel _ = Unit {0}

pub parcel_other : (u k : ℕ) (h : Holder) → NoParcel h → same_holder (parcel u k) h ≡ false
parcel_other u k (variable t d v) p = refl
parcel_other u k (callout t d) p = refl
parcel_other u k (owed t) p = refl
parcel_other u k (parcel t m) p = absurd p
parcel_other u k (slot b) p = refl
parcel_other u k (in_mode t m) p = refl
parcel_other u k (in_common t) p = refl

holder_test : (g h : Holder) (b : Bool) → same_holder g h ≡ b → (g ≡ h → ⊥) → same_holder g h ≡ false
holder_test g h true e apart = absurd (apart (same_holder-equal g h e))
holder_test g h false e apart = e

parcel_parts : (u k t m : ℕ) → parcel u k ≡ parcel t m → (u ≡ t) × (k ≡ m)
parcel_parts u k t m e = (cc, cc)

pub parcel_apart : (u k t m : ℕ) → (u ≡ t → k ≡ m → ⊥) → same_holder (parcel u k) (parcel t m) ≡ false
parcel_apart u k t m h =
    holder_test (parcel u k) (parcel t m) (same_holder (parcel u k) (parcel t m)) refl (λ e. let p = parcel_parts u k t m e in h p.0 p.1)
