-- What is left of work and of what was collected is the last part of it.
use Rattle.std.proofs.Common.{◌≡◌, ℕ, suc, ◌-◌, ◌≤◌, Bool, true, false, cond, List, [], ◌∷◌, length, drop, take, reverse, refl, sym, ap, ◌∙◌, arith}
use Rattle.std.specs.Prelude.{is_some}
use Rattle.std.proofs.lemmas.List.{length-map, length-reverse, length-take}
use Rattle.cf_next.specs.declared.parts.Callee.{Callee as CodeCallee}
use Rattle.cf_next.specs.declared.parts.Work.{Work as CodeWork}
use Rattle.cf_next.specs.Facts.{Facts}
use Rattle.cf_next.specs.Advance.{call_done, kind_called, on_top}
use Rattle.cf_next.specs.Next.{top_frame}
use Rattle.cf_next.specs.Steps.{called_left}
use Rattle.cf_next.specs.Stands.{Callee, Frame, Kind, Role, Work, release_of, spend_of, slots_of}
use Rattle.cf_next.specs.Demands.{callout_of, callees_left, work_left}
use Rattle.cf_next.specs.Stacks.{last_of, with_called}
use Rattle.cf_next.specs.Views.{callee_of, callees_of, work_of, works_of}

pub record IsLastOf {A : Type 0} (xs ys : List A) : Type 0 where
  pub within : length xs ≤ length ys
  pub is : xs ≡ last_of (length xs) ys

one-more : (n : ℕ) → suc n - n ≡ 1
one-more n = omega arith

pub last-tail : {A : Type 0} (y : A) (ys : List A) → IsLastOf ys (y ∷ ys)
last-tail y ys = record {
  within = omega arith;
  is = sym (ap (λ (k : ℕ). drop k (y ∷ ys)) (one-more (length ys)));
}

pub last-skip : {A : Type 0} (xs ys : List A) (y : A) → IsLastOf xs ys → IsLastOf xs (y ∷ ys)
last-skip xs ys y h =
    let w = h.within in
    let e : suc (length ys) - length xs ≡ suc (length ys - length xs) = omega (arith, w) in
    record {
      within = omega (arith, w);
      is = h.is ∙ sym (ap (λ (k : ℕ). drop k (y ∷ ys)) e);
    }

last-none : {A : Type 0} → IsLastOf {A = A} [] []
last-none = record { within = omega arith; is = refl }

pub work-last : (facts : Facts) (ws : List Work) → IsLastOf (work_left facts ws) ws
work-last facts [] = last-none
work-last facts (release_of o ∷ ws) = last-tail (release_of o) ws
work-last facts (spend_of i ∷ ws) = last-tail (spend_of i) ws
work-last facts (slots_of b k ∷ ws) = by (is_some (facts.slot b k)) (work-last facts ws)
  where
    by : (t : Bool) → IsLastOf (work_left facts ws) ws → IsLastOf (cond t ws (work_left facts ws)) (slots_of b k ∷ ws)
    by true h = last-tail (slots_of b k) ws
    by false h = last-skip (work_left facts ws) ws (slots_of b k) h

pub callees-last-of : (facts : Facts) (t : ℕ) (kind : Kind) (ks : List Callee)
    → IsLastOf (callees_left facts t kind ks) ks
callees-last-of facts t kind [] = last-none
callees-last-of facts t kind (k ∷ ks) = by (is_some (callout_of facts t kind k.role k.number)) (callees-last-of facts t kind ks)
  where
    by : (b : Bool) → IsLastOf (callees_left facts t kind ks) ks
        → IsLastOf (cond b ks (callees_left facts t kind ks)) (k ∷ ks)
    by true h = last-tail k ks
    by false h = last-skip (callees_left facts t kind ks) ks k h

-- so many are left
pub work-size : (W : List CodeWork) (n : ℕ) (left : List Work) → left ≡ works_of (take n W) → n ≤ length W
    → n ≡ length left
work-size W n left e h =
    sym (ap length e ∙ length-map (reverse (take n W)) work_of ∙ length-reverse (take n W) ∙ length-take n W ∙ omega (arith, h))

pub callees-size : (K : List CodeCallee) (n : ℕ) (left : List Callee) → left ≡ callees_of (take n K) → n ≤ length K
    → n ≡ length left
callees-size K n left e h =
    sym (ap length e ∙ length-map (reverse (take n K)) callee_of ∙ length-reverse (take n K) ∙ length-take n K ∙ omega (arith, h))

pub works-size : (W : List CodeWork) → length (works_of W) ≡ length W
works-size W = length-map (reverse W) work_of ∙ length-reverse W

-- what is kept by a number is what is left
pub kept-is : {A : Type 0} (left all : List A) (n : ℕ) → IsLastOf left all → n ≡ length left → last_of n all ≡ left
kept-is left all n h e = ap (λ (k : ℕ). last_of k all) e ∙ sym h.is

-- the innermost frame after a call
pub called-done : (facts : Facts) (t : ℕ) (role : Role) (left : ℕ) (fs : List Frame)
    → left ≡ length (called_left facts t (top_frame fs))
    → on_top (with_called role left) fs ≡ on_top (call_done facts t role) fs
called-done facts t role left [] h = refl
called-done facts t role left (f ∷ fs) h =
    ap (λ (ks : List Callee). record f { kind = kind_called role f.kind; collected = ks } ∷ fs) (kept-is (callees_left facts t f.kind f.collected) f.collected left (callees-last-of facts t f.kind f.collected) h)
