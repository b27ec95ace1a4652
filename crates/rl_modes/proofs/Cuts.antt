-- Places that part a list into a front that passes a test and a rest that does not, and lists with one element more.
use Rattle.std.proofs.Common.{◌≡◌, ℕ, zero, suc, ◌+◌, ◌<◌, ◌≤◌, Bool, true, false, cond, List, [], ◌∷◌, ◌++◌, length, take, drop, refl, ap, arith, length-append, length-take, length-drop}
use Rattle.std.proofs.lemmas.List.{get_or-take, get_or-drop}
use Rattle.std.proofs.lemmas.List.Sums.{list_all-from_AllPass}
use Rattle.std.specs.List.{filter, list_all, list_any, All}
use Rattle.std.specs.List.Sorted.{IsPartitionPoint}
use Rattle.std.proofs.lemmas.List.Elements.{filter-append}
use Rattle.std.proofs.lemmas.Bool.{and_parts, or_parts, or_from}
use Rattle.rl_modes.specs.Fields.{IsCut}

module _ {A : Type 0} (p : A → Bool) where
  -- what `partition_point` answers is such a place
  pub cut_from : (xs : List A) (k : ℕ) → k ≤ length xs → IsPartitionPoint (λ y. p y ≡ true) (λ y. p y ≡ false) xs k
      → IsCut p xs k
  cut_from xs k within point = record {
    within = within;
    front = λ j d below. point.0 j d (omega arith) below;
    rest = λ j d from below. point.1 j d from below;
  }

  pub cut_tail : (x : A) (xs : List A) (k : ℕ) → IsCut p (x ∷ xs) (suc k) → IsCut p xs k
  cut_tail x xs k c = record {
    within = omega (arith, c.within);
    front = λ j d below. c.front (suc j) d (omega arith);
    rest = λ j d from below. c.rest (suc j) d (omega arith) (omega arith);
  }

  pub cut_none : (x : A) (xs : List A) → IsCut p (x ∷ xs) zero → IsCut p xs zero
  cut_none x xs c = record {
    within = omega arith;
    front = λ j d below. absurd (omega arith);
    rest = λ j d from below. c.rest (suc j) d (omega arith) (omega arith);
  }

  -- a list has an element more, or one less
  pub filter_with : (f r : List A) (y : A) → p y ≡ true → filter p (f ++ y ∷ r) ≡ filter p f ++ y ∷ filter p r
  filter_with f r y t = rw (filter-append p f (y ∷ r), t) refl

  pub filter_but : (f r : List A) (y : A) → p y ≡ false → filter p (f ++ y ∷ r) ≡ filter p (f ++ r)
  filter_but f r y t = rw (filter-append p f (y ∷ r), filter-append p f r, t) refl

  pub length-filter_with : (f r : List A) (y : A)
      → length (filter p (f ++ y ∷ r)) ≡ length (filter p (f ++ r)) + cond (p y) 1 0
  length-filter_with f r y =
      simp (filter-append, length-append) (elim (p y) as (λ t. length (filter p f) + length
      (cond t (y ∷ filter p r) (filter p r)) ≡ length (filter p f) + length (filter p r) + cond t 1 0)
      [ true ↦ omega arith | false ↦ omega arith ])

  pub length-filter-le : (xs : List A) → length (filter p xs) ≤ length xs
  length-filter-le [] = omega arith
  length-filter-le (x ∷ xs) = elim (p x) as (λ t. length (cond t (x ∷ filter p xs) (filter p xs)) ≤ length (x ∷ xs))
      [ true ↦ omega (arith, length-filter-le xs) | false ↦ omega (arith, length-filter-le xs) ]

  -- a list that passes is kept by a filter, and one that does not is left out
  pub filter_kept : (xs : List A) → list_all p xs ≡ true → filter p xs ≡ xs
  filter_kept [] h = refl
  filter_kept (x ∷ xs) h = let both = and_parts (p x) (list_all p xs) h in rw both.0
      (ap (λ r. x ∷ r) (filter_kept xs both.1))

  pub filter_gone : (xs : List A) → list_any p xs ≡ false → filter p xs ≡ []
  filter_gone [] h = refl
  filter_gone (x ∷ xs) h = let both = or_parts (p x) (list_any p xs) h in rw both.0 (filter_gone xs both.1)

  pub any_none : (xs : List A) → All (λ x. p x ≡ false) xs → list_any p xs ≡ false
  any_none [] h = refl
  any_none (x ∷ xs) h = or_from (p x) (list_any p xs) (h 0 x (omega arith))
      (any_none xs (λ j d below. h (suc j) d (omega arith)))

  pub front_all : (xs : List A) (k : ℕ) → IsCut p xs k → list_all p (take k xs) ≡ true
  front_all xs k c = list_all-from_AllPass p (take k xs) (λ j d lt. let below : j < k = omega
      (arith, length-take k xs, c.within) in rw (get_or-take k xs j d below) (c.front j d below))

  pub rest_none : (xs : List A) (k : ℕ) → IsCut p xs k → list_any p (drop k xs) ≡ false
  rest_none xs k c = any_none (drop k xs) (λ j d lt. rw (get_or-drop k xs j d)
      (c.rest (k + j) d (omega arith) (omega (arith, length-drop k xs))))
