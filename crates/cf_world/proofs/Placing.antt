-- Rows of parcels: those of so many threads, what a place has, and a place that is set.
use Rattle.std.proofs.Common.{◌≡◌, ℕ, zero, suc, ◌+◌, ◌<◌, ◌∙◌, List, [], ◌∷◌, ◌++◌, length, map, Option, None, refl, ap, arith, inl, inr, length-append, get_or}
use Rattle.std.specs.Prelude.{slice_index_or, slice_set}
use Rattle.std.proofs.lemmas.Bool.{cases_lt}
use Rattle.std.proofs.lemmas.List.{map-set}
use Rattle.cf_syntax.specs.declared.script.Script.{Script}
use Rattle.cf_syntax.specs.BlockLines.{thread_block, uses_in}
use Rattle.cf_world.specs.Grounds.{parcel_at, HasPlaces}

-- the rows of the first threads, with nothing in them
pub record AreEmpty (s : Script) (n : ℕ) (rows : List (List (Option ℕ))) : Type 0 where
  pub count : length rows ≡ n
  pub places : (t : ℕ) → t < n → length (slice_index_or rows t []) ≡ length (uses_in (thread_block s t))
  pub empty : (t k : ℕ) → parcel_at rows t k ≡ None

no_cell : (k : ℕ) → slice_index_or {A = Option ℕ} [] k None ≡ None
no_cell zero = refl
no_cell (suc k) = refl

no_rows : (t k : ℕ) → parcel_at [] t k ≡ None
no_rows zero k = no_cell k
no_rows (suc t) k = no_cell k

pub empty_none : (s : Script) → AreEmpty s 0 []
empty_none s = record { count = refl; places = λ t h. absurd (omega (arith, h)); empty = no_rows }

empty_more : (rows : List (List (Option ℕ))) (row : List (Option ℕ)) → ((t k : ℕ) → parcel_at rows t k ≡ None)
    → ((k : ℕ) → slice_index_or row k None ≡ None) → (t k : ℕ) → parcel_at (rows ++ row ∷ []) t k ≡ None
empty_more [] row h r zero k = r k
empty_more [] row h r (suc t) k = no_rows t k
empty_more (x ∷ xs) row h r zero k = h zero k
empty_more (x ∷ xs) row h r (suc t) k = empty_more xs row (λ u j. h (suc u) j) r t k

row_before : (rows : List (List (Option ℕ))) (row : List (Option ℕ)) (t : ℕ) → t < length rows
    → slice_index_or (rows ++ row ∷ []) t [] ≡ slice_index_or rows t []
row_before [] row t h = absurd (omega (arith, h))
row_before (x ∷ xs) row zero h = refl
row_before (x ∷ xs) row (suc t) h = row_before xs row t (omega (arith, h))

row_last : (rows : List (List (Option ℕ))) (row : List (Option ℕ)) (t : ℕ) → length rows ≡ t
    → slice_index_or (rows ++ row ∷ []) t [] ≡ row
row_last [] row zero h = refl
row_last [] row (suc t) h = absurd (omega (arith, h))
row_last (x ∷ xs) row zero h = absurd (omega (arith, h))
row_last (x ∷ xs) row (suc t) h = row_last xs row t (omega (arith, h))

pub empty_push : (s : Script) (n : ℕ) (rows : List (List (Option ℕ))) (row : List (Option ℕ)) → AreEmpty s n rows
    → length row ≡ length (uses_in (thread_block s n)) → ((k : ℕ) → slice_index_or row k None ≡ None)
    → AreEmpty s (n + 1) (rows ++ row ∷ [])
empty_push s n rows row h places empty = record {
  count = omega (arith, length-append rows (row ∷ []), h.count);
  places = λ t lt. elim (cases_lt t n) [
    | inl below ↦ ap length (row_before rows row t (omega (arith, below, h.count))) ∙ h.places t below
    | inr above ↦
        let here : n ≡ t = omega (arith, above, lt) in
        ap length (row_last rows row t (h.count ∙ here)) ∙ places ∙ ap (λ (u : ℕ). length (uses_in (thread_block s u))) here
  ];
  empty = empty_more rows row h.empty empty;
}

pub has_places : (s : Script) (rows : List (List (Option ℕ))) → AreEmpty s s.thread_count rows → HasPlaces s rows
has_places s rows h = record { threads = h.count; places = h.places }

-- ---- a row of places with nothing in them

pub none_push : (row : List (Option ℕ)) → ((k : ℕ) → slice_index_or row k None ≡ None) → (k : ℕ)
    → slice_index_or (row ++ None ∷ []) k None ≡ None
none_push [] h zero = refl
none_push [] h (suc k) = no_cell k
none_push (x ∷ xs) h zero = h zero
none_push (x ∷ xs) h (suc k) = none_push xs (λ j. h (suc j)) k

pub none_none : (k : ℕ) → slice_index_or {A = Option ℕ} [] k None ≡ None
none_none k = no_cell k

-- ---- a place that is set

row_of : {A B : Type 0} (f : A → B) (xs : List A) (i : ℕ) (x : A) (d : B) → i < length xs → x ≡ get_or xs i x
    → f x ≡ get_or (map f xs) i d
row_of f [] i x d h e = absurd (omega (arith, h))
row_of f (y ∷ ys) zero x d h e = ap f e
row_of f (y ∷ ys) (suc i) x d h e = row_of f ys i x d (omega (arith, h)) e

pub set_row : {V : Type 0} (f : V → List (Option ℕ)) (rows : List V) (t k : ℕ) (row new : V) (object : Option ℕ)
    → t < length rows → row ≡ get_or rows t row → f new ≡ slice_set (f row) k object
    → map f (slice_set rows t new) ≡ slice_set (map f rows) t (slice_set (slice_index_or (map f rows) t []) k object)
set_row f rows t k row new object within is set =
    map-set f rows t new ∙ ap (λ (r : List (Option ℕ)). slice_set (map f rows) t r) (set ∙ ap (λ (r : List (Option ℕ)). slice_set r k object) (row_of f rows t row [] within is))
