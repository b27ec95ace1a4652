-- What stands at places of lists of slots.
use Rattle.std.proofs.Common.{◌≡◌, ℕ, zero, suc, ◌<◌, ◌/◌, ◌%◌, List, [], ◌∷◌, ◌++◌, length, take, slice_get, Some, None, refl, sym, ap, arith}
use Rattle.std.proofs.lemmas.Option.{same_Some, none-some}
use Rattle.std.specs.Option.{option_map}
use Rattle.cf_types.specs.declared.cells.Cell.{Cell}
use Rattle.cf_contents.specs.Contents.{flat, id_in_row, ids_of, row_ids}

-- one item more is there
pub found-within : {A : Type 0} (xs : List A) (n : ℕ) (x : A) → slice_get xs n ≡ Some x → n < length xs
found-within [] n x is = absurd (none-some x is)
found-within (y ∷ ys) zero x is = omega arith
found-within (y ∷ ys) (suc n) x is = let less = found-within ys n x is in omega arith

pub found-more : {A : Type 0} (xs : List A) (n : ℕ) (x : A) → slice_get xs n ≡ Some x
    → take (suc n) xs ≡ take n xs ++ x ∷ []
found-more [] n x is = absurd (none-some x is)
found-more (y ∷ ys) zero x is = ap (λ z. z ∷ []) (same_Some y x is)
found-more (y ∷ ys) (suc n) x is = ap (λ zs. y ∷ zs) (found-more ys n x is)

-- no item is left
pub found-all : {A : Type 0} (xs : List A) (n : ℕ) → slice_get xs n ≡ None → take n xs ≡ xs
found-all [] zero is = refl
found-all [] (suc n) is = refl
found-all (y ∷ ys) zero is = absurd (none-some y (sym is))
found-all (y ∷ ys) (suc n) is = ap (λ zs. y ∷ zs) (found-all ys n is)

pub ids-at : (ms : List Cell) (k : ℕ) → slice_get (ids_of ms) k ≡ option_map (λ (m : Cell). m.id) (slice_get ms k)
ids-at [] k = refl
ids-at (m ∷ ms) zero = refl
ids-at (m ∷ ms) (suc k) = ids-at ms k

pub row-ids-at : (rows : List (Cell × ℕ)) (k : ℕ) → slice_get (row_ids rows) k ≡ option_map id_in_row (slice_get rows k)
row-ids-at [] k = refl
row-ids-at (r ∷ rs) zero = refl
row-ids-at (r ∷ rs) (suc k) = row-ids-at rs k

-- the slots of pairs, two for each
pub flat-key : (ps : List (Cell × ℕ)) (k n : ℕ) → n % 2 ≡ 0 → k ≡ n / 2
    → slice_get (flat ps) n ≡ option_map id_in_row (slice_get ps k)
flat-key [] k n even half = refl
flat-key (p ∷ ps) zero zero even half = refl
flat-key (p ∷ ps) zero (suc zero) even half = absurd (omega arith)
flat-key (p ∷ ps) zero (suc (suc n)) even half = absurd (omega arith)
flat-key (p ∷ ps) (suc k) zero even half = absurd (omega arith)
flat-key (p ∷ ps) (suc k) (suc zero) even half = absurd (omega arith)
flat-key (p ∷ ps) (suc k) (suc (suc n)) even half = flat-key ps k n (omega arith) (omega arith)

pub flat-value : (ps : List (Cell × ℕ)) (k n : ℕ) → n % 2 ≡ 1 → k ≡ n / 2
    → slice_get (flat ps) n ≡ option_map (λ (pair : Cell × ℕ). pair.1) (slice_get ps k)
flat-value [] k n odd half = refl
flat-value (p ∷ ps) zero zero odd half = absurd (omega arith)
flat-value (p ∷ ps) zero (suc zero) odd half = refl
flat-value (p ∷ ps) zero (suc (suc n)) odd half = absurd (omega arith)
flat-value (p ∷ ps) (suc k) zero odd half = absurd (omega arith)
flat-value (p ∷ ps) (suc k) (suc zero) odd half = absurd (omega arith)
flat-value (p ∷ ps) (suc k) (suc (suc n)) odd half = flat-value ps k n (omega arith) (omega arith)
