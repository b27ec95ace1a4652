-- Numbers of references, raised one by one.
use Rattle.std.proofs.Common.{◌≡◌, ℕ, zero, suc, ◌+◌, ◌-◌, ◌<◌, ◌≤◌, Bool, true, false, cond, List, [], ◌∷◌, ◌++◌, length, take, get_or, refl, sym, ap, ◌∙◌, subst, arith, inl, inr, eqb}
use Rattle.std.specs.Prelude.{slice_index, slice_set}
use Rattle.std.proofs.lemmas.Bool.{eq-eqb}
use Rattle.std.proofs.lemmas.Bool.Decides.{eqb_tells}
use Rattle.std.proofs.lemmas.List.{take_more, get_or-set_same, get_or-set_other}
use Rattle.std.proofs.Math.ListN.{length-set}
use Rattle.cf_contents.specs.Contents.{times}
use Rattle.cf_contents.proofs.SlotLaws.{times-append}

pub one_most : (b : Bool) → cond {A = ℕ} b 1 0 ≤ 1
one_most true = omega arith
one_most false = omega arith

pub times_le-length : (o : ℕ) (xs : List ℕ) → times o xs ≤ length xs
times_le-length o [] = omega arith
times_le-length o (x ∷ xs) = omega (arith, times_le-length o xs, one_most (eqb x o))

pub times-here : (o : ℕ) (xs : List ℕ) → times o (o ∷ xs) ≡ 1 + times o xs
times-here o xs = ap (λ (b : Bool). cond {A = ℕ} b 1 0 + times o xs) (eq-eqb o o refl)

pub times-at : (xs : List ℕ) (i o d : ℕ) → i < length xs → get_or xs i d ≡ o → 0 < times o xs
times-at [] i o d h e = absurd (omega arith)
times-at (x ∷ xs) zero o d h e = subst (λ (p : ℕ). 0 < times p (x ∷ xs)) e (omega (arith, times-here x xs))
times-at (x ∷ xs) (suc i) o d h e = omega (arith, times-at xs i o d (omega arith) e)

-- one more for an object
pub index_raised : (xs : List ℕ) (o p : ℕ) → o < length xs
    → slice_index (slice_set xs o (slice_index xs o + 1)) p ≡ slice_index xs p + cond {A = ℕ} (eqb o p) 1 0
index_raised xs o p h = elim (eqb_tells o p) [
  | inl same ↦ subst (λ (q : ℕ). slice_index (slice_set xs o (slice_index xs o + 1)) q ≡ slice_index xs q + cond {A = ℕ} (eqb o q) 1 0) same.1 (get_or-set_same xs o (slice_index xs o + 1) 0 h ∙ sym (ap (λ (b : Bool). slice_index xs o + cond {A = ℕ} b 1 0) (eq-eqb o o refl)))
  | inr other ↦ get_or-set_other xs o p (slice_index xs o + 1) 0 (λ e. other.1 (sym e)) ∙ sym (omega (arith, ap (λ (b : Bool). cond {A = ℕ} b 1 0) other.0))
]

-- one less
pub index_lowered : (xs : List ℕ) (o p : ℕ) → o < length xs → 0 < slice_index xs o
    → slice_index (slice_set xs o (slice_index xs o - 1)) p + cond {A = ℕ} (eqb o p) 1 0 ≡ slice_index xs p
index_lowered xs o p h some = elim (eqb_tells o p) [
  | inl same ↦ subst (λ (q : ℕ). slice_index (slice_set xs o (slice_index xs o - 1)) q + cond {A = ℕ} (eqb o q) 1 0 ≡ slice_index xs q) same.1 (omega (arith, some, get_or-set_same xs o (slice_index xs o - 1) 0 h, ap (λ (b : Bool). cond {A = ℕ} b 1 0) (eq-eqb o o refl)))
  | inr other ↦ omega (arith, get_or-set_other xs o p (slice_index xs o - 1) 0 (λ e. other.1 (sym e)), ap (λ (b : Bool). cond {A = ℕ} b 1 0) other.0)
]

pub size_lowered : (xs : List ℕ) (o n : ℕ) → length (slice_set xs o n) ≡ length xs
size_lowered xs o n = length-set xs o n

pub index-past : (xs : List ℕ) (i : ℕ) → length xs ≤ i → slice_index xs i ≡ 0
index-past [] i h = refl
index-past (x ∷ xs) zero h = absurd (omega arith)
index-past (x ∷ xs) (suc i) h = index-past xs i (omega arith)

-- a number after the others
pub index-grown : (xs : List ℕ) (i : ℕ) → slice_index (xs ++ 0 ∷ []) i ≡ slice_index xs i
index-grown [] zero = refl
index-grown [] (suc i) = refl
index-grown (x ∷ xs) zero = refl
index-grown (x ∷ xs) (suc i) = index-grown xs i

-- the numbers after some of the objects that were gained
pub record IsRaised (before : List ℕ) (gained : List ℕ) (i : ℕ) (now : List ℕ) : Type 0 where
  pub size : length now ≡ length before
  pub at : (o : ℕ) → o < length before → slice_index now o ≡ slice_index before o + times o (take i gained)

pub raised_more : (before gained : List ℕ) (i item : ℕ) (now next : List ℕ) → i < length gained
    → item ≡ get_or gained i item → item < length before → next ≡ slice_set now item (slice_index now item + 1)
    → IsRaised before gained i now → IsRaised before gained (i + 1) next
raised_more before gained i item now next lt is here e h = record {
  size = ap length e ∙ length-set now item (slice_index now item + 1) ∙ h.size;
  at = λ o below.
      let front = take i gained in
      let more : take (i + 1) gained ≡ front ++ item ∷ [] = take_more gained i item lt ∙ ap (λ (x : ℕ). front ++ x ∷ []) (sym is) in
      let count : times o (take (i + 1) gained) ≡ times o front + times o (item ∷ []) = ap (times o) more ∙ times-append o front (item ∷ []) in
      let now_at : slice_index next o ≡ slice_index now o + cond {A = ℕ} (eqb item o) 1 0 = ap (λ (xs : List ℕ). slice_index xs o) e ∙ index_raised now item o (omega (arith, h.size, here)) in
      omega (arith, count, now_at, h.at o below);
}
