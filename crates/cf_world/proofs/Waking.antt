-- A list is changed element by element from its start on.
use Rattle.std.proofs.Common.{◌≡◌, ℕ, zero, suc, ◌+◌, ◌<◌, List, [], ◌∷◌, length, map, get_or, set, refl, ap, ◌∙◌, arith}

module _ {A B : Type 0} (f : A → B) (h : B → B) where
  -- so many elements are changed
  abbrev pub changed_to : ℕ → List B → List B
  changed_to zero xs = xs
  changed_to (suc n) [] = []
  changed_to (suc n) (x ∷ xs) = h x ∷ changed_to n xs

  heads : (x y : B) (xs ys : List B) → ◌≡◌ {A = List B} (x ∷ xs) (y ∷ ys) → x ≡ y
  heads x y xs ys e = cc

  tails : (x y : B) (xs ys : List B) → ◌≡◌ {A = List B} (x ∷ xs) (y ∷ ys) → xs ≡ ys
  tails x y xs ys e = cc

  changed_at : (n : ℕ) (items : List A) (xs : List B) (y d : A) → n < length items → map f items ≡ changed_to n xs
      → f y ≡ h (f (get_or items n d))
      → map f (set items n y) ≡ changed_to (suc n) xs
  changed_at n [] xs y d lt e is = absurd (omega (arith, lt))
  changed_at zero (a ∷ rest) [] y d lt e is = absurd cc
  changed_at zero (a ∷ rest) (x ∷ xs) y d lt e is =
      ap (λ (b : B). b ∷ map f rest) (is ∙ ap h (heads (f a) x (map f rest) xs e)) ∙ ap (λ (bs : List B). h x ∷ bs) (tails (f a) x (map f rest) xs e)
  changed_at (suc n) (a ∷ rest) [] y d lt e is = absurd cc
  changed_at (suc n) (a ∷ rest) (x ∷ xs) y d lt e is =
      ap (λ (b : B). b ∷ map f (set rest n y)) (heads (f a) (h x) (map f rest) (changed_to n xs) e)
      ∙ ap (λ (bs : List B). h x ∷ bs) (changed_at n rest xs y d (omega (arith, lt)) (tails (f a) (h x) (map f rest) (changed_to n xs) e) is)

  pub changed_more : (n : ℕ) (items : List A) (xs : List B) (y d : A) → n < length items → map f items ≡ changed_to n xs
      → f y ≡ h (f (get_or items n d))
      → map f (set items n y) ≡ changed_to (n + 1) xs
  changed_more n items xs y d lt e is =
      let more : n + 1 ≡ suc n = omega arith in
      rw more (changed_at n items xs y d lt e is)

  changed_whole : (xs : List B) → changed_to (length xs) xs ≡ map h xs
  changed_whole [] = refl
  changed_whole (x ∷ xs) = ap (λ (bs : List B). h x ∷ bs) (changed_whole xs)

  pub changed_all : (n : ℕ) (xs : List B) → n ≡ length xs → changed_to n xs ≡ map h xs
  changed_all n xs e = ap (λ (m : ℕ). changed_to m xs) e ∙ changed_whole xs
