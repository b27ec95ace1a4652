-- Rows on top of one another, in one list of cells.
use Rattle.std.proofs.Common.{◌≡◌, ℕ, zero, suc, ◌+◌, ◌≤◌, List, [], ◌∷◌, ◌++◌, length, take, reverse, refl, arith, length-append}
use Rattle.std.proofs.lemmas.List.{take_all, take-take, take-append-le, drop-append-le, drop_all, drop-take, reverse-append}
use Rattle.cf_next.specs.Grids.{on_top_row, rows_of, AreNested}

-- a cell at the end
pub rows-push : {A : Type 0} (s : ℕ) (ss : List ℕ) (cells : List A) (c : A) → s ≤ length cells
    → rows_of (s ∷ ss) (cells ++ c ∷ []) ≡ on_top_row (λ (r : List A). r ++ c ∷ []) (rows_of (s ∷ ss) cells)
rows-push s ss cells c h = rw (drop-append-le s cells (c ∷ []) h, take-append-le s cells (c ∷ []) h) refl

pub nested-push : {A : Type 0} (s : ℕ) (ss : List ℕ) (cells : List A) (c : A) → AreNested (s ∷ ss) cells
    → AreNested (s ∷ ss) (cells ++ c ∷ [])
nested-push {A = A} s ss cells c h =
    let le : s ≤ length cells = h.0 in
    (omega (arith, length-append cells (c ∷ []), le), rw (take-append-le s cells (c ∷ []) le) h.1)

-- a row that is cut
pub rows-truncate : {A : Type 0} (s : ℕ) (ss : List ℕ) (cells : List A) (n : ℕ)
    → rows_of (s ∷ ss) (take (s + n) cells) ≡ on_top_row (λ (r : List A). take n r) (rows_of (s ∷ ss) cells)
rows-truncate s ss cells n = rw (drop-take s n cells, take-take s (s + n) cells (omega arith)) refl

long : {A : Type 0} (n m : ℕ) (xs : List A) → n ≤ length xs → n ≤ length (take (n + m) xs)
long zero m xs h = omega arith
long (suc n) m [] h = absurd (omega (arith, h))
long (suc n) m (x ∷ xs) h = let e : suc n + m ≡ suc (n + m) = omega arith in rw e (omega (arith, long n m xs (omega (arith, h))))

pub nested-truncate : {A : Type 0} (s : ℕ) (ss : List ℕ) (cells : List A) (n : ℕ) → AreNested (s ∷ ss) cells
    → AreNested (s ∷ ss) (take (s + n) cells)
nested-truncate s ss cells n h =
    let le : s ≤ length cells = h.0 in (long s n cells le, rw (take-take s (s + n) cells (omega arith)) h.1)

-- one row more
pub rows-row : {A : Type 0} (ss : List ℕ) (cells : List A) → rows_of (length cells ∷ ss) cells ≡ [] ∷ rows_of ss cells
rows-row ss cells = rw (drop_all (length cells) cells (omega arith), take_all (length cells) cells (omega arith)) refl

pub nested-row : {A : Type 0} (ss : List ℕ) (cells : List A) → AreNested ss cells → AreNested (length cells ∷ ss) cells
nested-row ss cells h = (omega arith, rw (take_all (length cells) cells (omega arith)) h)

-- the last comes first
pub reverse-last : {A : Type 0} (xs : List A) (x : A) → reverse (xs ++ x ∷ []) ≡ x ∷ reverse xs
reverse-last xs x = reverse-append xs (x ∷ [])
