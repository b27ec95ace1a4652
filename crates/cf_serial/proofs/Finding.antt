-- The first thread of a round that can go on.
use Rattle.std.proofs.Common.{◌≡◌, ℕ, zero, suc, ◌+◌, ◌-◌, ◌<◌, ◌≤◌, Bool, true, false, cond, List, [], ◌++◌, Some, None, refl, sym, ap, ◌∙◌, subst, arith, inl, inr, append-nil}
use Rattle.std.specs.Prelude.{find}
use Rattle.std.specs.List.{range_with_len}
use Rattle.std.proofs.lemmas.Bool.Decides.{eqb_tells, nat_tests}
use Rattle.cf_model.specs.Serial.{round}

above : (a k : ℕ) → a ≤ k → (a ≡ k → ⊥) → a + 1 ≤ k
above a k h n = grind (arith, nat_tests)

-- none of the numbers of a range is found
find_none : (p : ℕ → Bool) (a n : ℕ) (ys : List ℕ) → ((u : ℕ) → a ≤ u → u < a + n → p u ≡ false)
    → find p (range_with_len a n ++ ys) ≡ find p ys
find_none p a zero ys h = refl
find_none p a (suc n) ys h =
    ap (λ (b : Bool). cond b (Some a) (find p (range_with_len (a + 1) n ++ ys))) (h a (omega arith) (omega arith))
    ∙ find_none p (a + 1) n ys (λ u from to. h u (omega (arith, from)) (omega (arith, to)))

-- the first one is found
find_here : (p : ℕ → Bool) (a n k : ℕ) (ys : List ℕ) → a ≤ k → k < a + n → ((u : ℕ) → a ≤ u → u < k → p u ≡ false)
    → p k ≡ true → find p (range_with_len a n ++ ys) ≡ Some k
find_here p a zero k ys from to h here = absurd (omega (arith, from, to))
find_here p a (suc n) k ys from to h here = elim (eqb_tells a k) [
  | inl e ↦
      subst (λ (m : ℕ). find p (range_with_len a (suc n) ++ ys) ≡ Some m) e.1
      (ap (λ (b : Bool). cond b (Some a) (find p (range_with_len (a + 1) n ++ ys)))
      (subst (λ (m : ℕ). p m ≡ true) (sym e.1) here))
  | inr e ↦
      let more : a + 1 ≤ k = above a k from e.1 in
      ap (λ (b : Bool). cond b (Some a) (find p (range_with_len (a + 1) n ++ ys)))
      (h a (omega arith) (omega (arith, more)))
      ∙ find_here p (a + 1) n k ys more (omega (arith, to)) (λ u low high. h u (omega (arith, low)) high) here
]

-- a number from the pointer on
pub picked_after : (p : ℕ → Bool) (count pointer k : ℕ) → pointer ≤ k → k < count
    → ((u : ℕ) → pointer ≤ u → u < k → p u ≡ false) → p k ≡ true → find p (round count pointer) ≡ Some k
picked_after p count pointer k from to h here =
    find_here p pointer (count - pointer) k (range_with_len 0 pointer) from (omega (arith, from, to)) h here

-- one before it
pub picked_before : (p : ℕ → Bool) (count pointer k : ℕ) → pointer ≤ count → k < pointer
    → ((u : ℕ) → pointer ≤ u → u < count → p u ≡ false) → ((u : ℕ) → u < k → p u ≡ false) → p k ≡ true
    → find p (round count pointer) ≡ Some k
picked_before p count pointer k le to late h here =
    find_none p pointer (count - pointer) (range_with_len 0 pointer) (λ u low high. late u low (omega (arith, high, le)))
    ∙ ap (find p) (sym (append-nil (range_with_len 0 pointer)))
    ∙ find_here p 0 pointer k [] (omega arith) (omega (arith, to)) (λ u low high. h u high) here

-- none
pub picked_none : (p : ℕ → Bool) (count pointer : ℕ) → pointer ≤ count
    → ((u : ℕ) → pointer ≤ u → u < count → p u ≡ false) → ((u : ℕ) → u < pointer → p u ≡ false)
    → find p (round count pointer) ≡ None
picked_none p count pointer le late h =
    find_none p pointer (count - pointer) (range_with_len 0 pointer) (λ u low high. late u low (omega (arith, high, le)))
    ∙ ap (find p) (sym (append-nil (range_with_len 0 pointer)))
    ∙ find_none p 0 pointer [] (λ u low high. h u (omega (arith, high)))
