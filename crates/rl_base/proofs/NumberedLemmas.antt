-- Lists by rising number: what look-ups find after a change, that they stay lists by rising number, and what a binary
-- search tells of them.
use Rattle.std.proofs.Common.{◌≡◌, ℕ, zero, suc, ◌+◌, ◌<◌, ◌≤◌, Bool, true, false, cond, List, [], ◌∷◌, length, Option, Some, None, option_map, slice_get, slice_set, get_or, refl, inl, inr, sym, ap, ◌∙◌, subst, arith, nat_lt, ◌==◌}
use Rattle.std.specs.List.{AllByRecursion, insert}
use Rattle.std.proofs.lemmas.Bool.Decides.{nat_tests}
use Rattle.std.specs.List.Sorted.{IsBinarySearchResult, IsSearchInRange, IsSortedBy}
use Rattle.std.specs.Cmp.{nat_cmp_total}
use Rattle.std.specs.declared.cmp.Ordering.TheVariants.{Less, Equal, Greater}
use Rattle.std.specs.Ordering.{nat_cmp, is_lt}
use Rattle.std.specs.Prelude.{Result, Ok, Err}
use Rattle.std.proofs.lemmas.List.Sorted.{searchable_from_sorted}
use Rattle.std.proofs.lemmas.Option.{none-some, same_Some, slice_get_cases, slice_get_read}
use Rattle.rl_base.specs.Numbered.{kept_at, kept_with, changed_at, RisesBy, IsPlaceAt, IsGapAt, IsPlaceOf}

-- ---- look-ups after a change

cmp_less : (a b : ℕ) → nat_cmp a b ≡ Less → a < b
cmp_less a b h = grind (arith, nat_tests)

cmp_equal : (a b : ℕ) → nat_cmp a b ≡ Equal → a ≡ b
cmp_equal a b h = grind (arith, nat_tests)

cmp_greater : (a b : ℕ) → nat_cmp a b ≡ Greater → b < a
cmp_greater a b h = grind (arith, nat_tests)

commute :
    {A : Type 0} (s t : Bool) (a b c : A) → (s ≡ true → t ≡ true → a ≡ b) →
    cond s a (cond t b c) ≡ cond t b (cond s a c)
commute true true a b c same = same refl refl
commute true false a b c same = refl
commute false true a b c same = refl
commute false false a b c same = refl

module _ {X : Type 0} (number : X → ℕ) where
  apart_head :
      (n : ℕ) (y : X) (ys : List X) → kept_at number n (y ∷ ys) ≡ None →
      ((number y == n) ≡ false) × (kept_at number n ys ≡ None)
  apart_head n y ys h = at_test (number y == n) refl h where
    at_test :
        (b : Bool) → (number y == n) ≡ b → cond b (Some y) (kept_at number n ys) ≡ None →
        ((number y == n) ≡ false) × (kept_at number n ys ≡ None)
    at_test true e l = absurd (none-some y (sym l))
    at_test false e l = (e, l)

  -- a look-up where one more is kept
  pub kept_at-with :
      (n : ℕ) (x : X) (xs : List X) → kept_at number (number x) xs ≡ None →
      kept_at number n (kept_with number x xs) ≡ cond (number x == n) (Some x) (kept_at number n xs)
  kept_at-with n x [] h = refl
  kept_at-with n x (y ∷ ys) h =
      at_test (nat_lt (number x) (number y)) (kept_at-with n x ys (apart_head (number x) y ys h).1) where
        swapped :
            cond (number y == n) (Some y) (cond (number x == n) (Some x) (kept_at number n ys))
            ≡ cond (number x == n) (Some x) (cond (number y == n) (Some y) (kept_at number n ys))
        swapped =
            commute (number y == n) (number x == n) (Some y) (Some x) (kept_at number n ys)
            (λ s t. let apart : (number y == number x) ≡ false = (apart_head (number x) y ys h).0 in
            absurd (grind (arith, nat_tests)))

        at_test :
            (b : Bool) → kept_at number n (kept_with number x ys)
            ≡ cond (number x == n) (Some x) (kept_at number n ys) →
            kept_at number n (cond b (x ∷ y ∷ ys) (y ∷ kept_with number x ys))
            ≡ cond (number x == n) (Some x) (kept_at number n (y ∷ ys))
        at_test true rest = refl
        at_test false rest = ap (λ o. cond (number y == n) (Some y) o) rest ∙ swapped

  -- a look-up where one is changed
  module _ (change : X → X) where
    changed_here :
        (b : Bool) (x : X) (old new : Option X) → new ≡ cond b (option_map change old) old →
        cond b (Some (change x)) new ≡ cond b (option_map change (cond b (Some x) old)) (cond b (Some x) old)
    changed_here true x old new ih = refl
    changed_here false x old new ih = ih

    changed_later :
        (b s : Bool) (x : X) (old new : Option X) → (b ≡ true → s ≡ false) →
        new ≡ cond b (option_map change old) old →
        cond s (Some x) new ≡ cond b (option_map change (cond s (Some x) old)) (cond s (Some x) old)
    changed_later true true x old new apart ih = let wrong : true ≡ false = apart refl in cc
    changed_later true false x old new apart ih = ih
    changed_later false true x old new apart ih = refl
    changed_later false false x old new apart ih = ih

    pub kept_at-changed :
        (n m : ℕ) → ((x : X) → number (change x) ≡ number x) → (xs : List X) →
        kept_at number n (changed_at number m change xs)
        ≡ cond (m == n) (option_map change (kept_at number n xs)) (kept_at number n xs)
    kept_at-changed n m keeps [] = at_test (m == n) where
      at_test : (b : Bool) → None ≡ cond {A = Option X} b None None
      at_test true = refl
      at_test false = refl
    kept_at-changed n m keeps (x ∷ xs) = at_test (number x == m) refl (kept_at-changed n m keeps xs) where
      at_test :
          (t : Bool) → (number x == m) ≡ t →
          kept_at number n (changed_at number m change xs)
          ≡ cond (m == n) (option_map change (kept_at number n xs)) (kept_at number n xs) →
          kept_at number n (cond t (change x) x ∷ changed_at number m change xs)
          ≡ cond (m == n) (option_map change (kept_at number n (x ∷ xs))) (kept_at number n (x ∷ xs))
      at_test true e ih =
          let same : (number x == n) ≡ (m == n) = grind (arith, nat_tests) in
          rw (keeps x, same) (changed_here (m == n) x (kept_at number n xs)
          (kept_at number n (changed_at number m change xs)) ih)
      at_test false e ih =
          changed_later (m == n) (number x == n) x (kept_at number n xs)
          (kept_at number n (changed_at number m change xs)) (λ b. grind (arith, nat_tests)) ih

  -- ---- lists by rising number

  all_with :
      (P : X → Type 0) (x : X) (xs : List X) → P x → AllByRecursion P xs → AllByRecursion P (kept_with number x xs)
  all_with P x [] p h = (p, tt)
  all_with P x (y ∷ ys) p h = at_test (nat_lt (number x) (number y)) (all_with P x ys p h.1) where
    at_test :
        (b : Bool) → AllByRecursion P (kept_with number x ys) →
        AllByRecursion P (cond b (x ∷ y ∷ ys) (y ∷ kept_with number x ys))
    at_test true rest = (p, h)
    at_test false rest = (h.0, rest)

  all_above :
      (n m : ℕ) (xs : List X) → n < m → AllByRecursion (λ y. m < number y) xs →
      AllByRecursion (λ y. n < number y) xs
  all_above n m [] lt h = tt
  all_above n m (x ∷ xs) lt h = (omega arith, all_above n m xs lt h.1)

  pub RisesBy-with :
      (x : X) (xs : List X) → kept_at number (number x) xs ≡ None → RisesBy number xs →
      RisesBy number (kept_with number x xs)
  RisesBy-with x [] absent h = (tt, tt)
  RisesBy-with x (y ∷ ys) absent h =
      at_test (nat_lt (number x) (number y)) refl (RisesBy-with x ys (apart_head (number x) y ys absent).1 h.1)
    where
      at_test :
          (b : Bool) → nat_lt (number x) (number y) ≡ b → RisesBy number (kept_with number x ys) →
          RisesBy number (cond b (x ∷ y ∷ ys) (y ∷ kept_with number x ys))
      at_test true e rest =
          let lt : number x < number y = grind (arith, nat_tests) in
          ((lt, all_above (number x) (number y) ys lt h.0), h)
      at_test false e rest =
          let apart : (number y == number x) ≡ false = (apart_head (number x) y ys absent).0 in
          let lt : number y < number x = grind (arith, nat_tests) in
          (all_with (λ z. number y < number z) x ys lt h.0, rest)

  module _ (n : ℕ) (change : X → X) (keeps : (x : X) → number (change x) ≡ number x) where
    keeps_number : (x : X) (b : Bool) → number (cond b (change x) x) ≡ number x
    keeps_number x true = keeps x
    keeps_number x false = refl

    all_changed :
        (m : ℕ) (xs : List X) → AllByRecursion (λ y. m < number y) xs →
        AllByRecursion (λ y. m < number y) (changed_at number n change xs)
    all_changed m [] h = tt
    all_changed m (x ∷ xs) h = (rw (keeps_number x (number x == n)) h.0, all_changed m xs h.1)

    pub RisesBy-changed : (xs : List X) → RisesBy number xs → RisesBy number (changed_at number n change xs)
    RisesBy-changed [] h = tt
    RisesBy-changed (x ∷ xs) h =
        (rw (keeps_number x (number x == n)) (all_changed (number x) xs h.0), RisesBy-changed xs h.1)

  -- ---- what a binary search tells

  all_at : (P : X → Type 0) (xs : List X) → AllByRecursion P xs → (k : ℕ) (d : X) → k < length xs → P (get_or xs k d)
  all_at P [] h k d lt = absurd (omega arith)
  all_at P (x ∷ xs) h zero d lt = h.0
  all_at P (x ∷ xs) h (suc k) d lt = all_at P xs h.1 k d (omega arith)

  rises_far :
      (xs : List X) → RisesBy number xs → (j k : ℕ) (d : X) → j < k → k < length xs →
      number (get_or xs j d) < number (get_or xs k d)
  rises_far [] h j k d lt within = absurd (omega arith)
  rises_far (x ∷ xs) h j zero d lt within = absurd (omega arith)
  rises_far (x ∷ xs) h zero (suc k) d lt within = all_at (λ y. number x < number y) xs h.0 k d (omega arith)
  rises_far (x ∷ xs) h (suc j) (suc k) d lt within = rises_far xs h.1 j k d (omega arith) (omega arith)

  unchanged_above :
      (n : ℕ) (change : X → X) (xs : List X) → AllByRecursion (λ y. n < number y) xs →
      changed_at number n change xs ≡ xs
  unchanged_above n change [] h = refl
  unchanged_above n change (x ∷ xs) h =
      let apart : (number x == n) ≡ false = let lt = h.0 in grind (arith, nat_tests) in
      rw apart (ap (λ ys. x ∷ ys) (unchanged_above n change xs h.1))

  all_got : (P : X → Type 0) (xs : List X) (i : ℕ) (x : X) → AllByRecursion P xs → slice_get xs i ≡ Some x → P x
  all_got P [] i x h at = absurd (none-some x at)
  all_got P (y ∷ ys) zero x h at = subst P (same_Some y x at) h.0
  all_got P (y ∷ ys) (suc i) x h at = all_got P ys i x h.1 at

  there :
      (xs : List X) (i : ℕ) (x : X) → RisesBy number xs → slice_get xs i ≡ Some x →
      kept_at number (number x) xs ≡ Some x
  there [] i x h at = absurd (none-some x at)
  there (y ∷ ys) zero x h at =
      let same : y ≡ x = same_Some y x at in
      let here : (number y == number x) ≡ true =
      let e : number y ≡ number x = ap number same in grind (arith, nat_tests) in
      rw here (ap Some same)
  there (y ∷ ys) (suc i) x h at =
      let lt : number y < number x = all_got (λ z. number y < number z) ys i x h.0 at in
      let apart : (number y == number x) ≡ false = grind (arith, nat_tests) in
      rw apart (there ys i x h.1 at)

  changed_there :
      (change : X → X) (xs : List X) (i : ℕ) (x : X) → RisesBy number xs → slice_get xs i ≡ Some x →
      slice_set xs i (change x) ≡ changed_at number (number x) change xs
  changed_there change [] i x h at = absurd (none-some x at)
  changed_there change (y ∷ ys) zero x h at =
      let same : y ≡ x = same_Some y x at in
      let here : (number y == number x) ≡ true =
      let e : number y ≡ number x = ap number same in grind (arith, nat_tests) in
      let rest : changed_at number (number x) change ys ≡ ys =
      unchanged_above (number x) change ys (subst (λ z. AllByRecursion (λ w. number z < number w) ys) same h.0)
      in
      rw (here, rest) (ap (λ z. change z ∷ ys) (sym same))
  changed_there change (y ∷ ys) (suc i) x h at =
      let lt : number y < number x = all_got (λ z. number y < number z) ys i x h.0 at in
      let apart : (number y == number x) ≡ false = grind (arith, nat_tests) in
      rw apart (ap (λ zs. y ∷ zs) (changed_there change ys i x h.1 at))

  missing_above :
      (n : ℕ) (xs : List X) → ((k : ℕ) (d : X) → k < length xs → n < number (get_or xs k d)) →
      kept_at number n xs ≡ None
  missing_above n [] more = refl
  missing_above n (x ∷ xs) more =
      let lt : n < number x = more 0 x (omega arith) in
      let apart : (number x == n) ≡ false = grind (arith, nat_tests) in
      rw apart (missing_above n xs (λ k d l. more (suc k) d (omega arith)))

  gap :
      (n : ℕ) (xs : List X) (i : ℕ) → i ≤ length xs → ((k : ℕ) (d : X) → k < i → number (get_or xs k d) < n) →
      ((k : ℕ) (d : X) → i ≤ k → k < length xs → n < number (get_or xs k d)) → IsGapAt number n xs i
  gap n [] zero within less more = record { within = within; missing = refl; put = λ x e. refl }
  gap n [] (suc i) within less more = absurd (omega arith)
  gap n (y ∷ ys) zero within less more =
      let lt : n < number y = more 0 y (omega arith) (omega arith) in
      record {
        within = within;
        missing = missing_above n (y ∷ ys) (λ k d l. more k d (omega arith) l);
        put = λ x e. let first : nat_lt (number x) (number y) ≡ true = grind (arith, nat_tests) in rw first refl;
      }
  gap n (y ∷ ys) (suc i) within less more =
      let lt : number y < n = less 0 y (omega arith) in
      let rest : IsGapAt number n ys i =
      gap n ys i (omega arith) (λ k d l. less (suc k) d (omega arith))
      (λ k d l m. more (suc k) d (omega arith) (omega arith)) in
      let apart : (number y == n) ≡ false = grind (arith, nat_tests) in
      record {
        within = within;
        missing = rw apart rest.missing;
        put =
            λ x e. let later : nat_lt (number x) (number y) ≡ false = grind (arith, nat_tests) in
            rw later (ap (λ zs. y ∷ zs) (rest.put x e));
      }

  searchable : (n : ℕ) (xs : List X) → RisesBy number xs → IsSortedBy (λ a b. is_lt (nat_cmp (number a) (number b))) xs
  searchable n xs h =
      λ k d low high. let lt : number (get_or xs k d) < number (get_or xs (k + 1) d) = rises_far xs h k (k + 1) d
      (omega arith) high in grind (arith, nat_tests)

  placed :
      (n : ℕ) (xs : List X) (i : ℕ) (x : X) → RisesBy number xs → i < length xs → slice_get xs i ≡ Some x →
      number x ≡ n → IsPlaceAt number n xs i
  placed n xs i x h below at e = record {
    below = below;
    there = subst (λ m. kept_at number m xs ≡ slice_get xs i) e (there xs i x h at ∙ sym at);
    changed =
        λ change y g. let same : x ≡ y = same_Some x y (sym at ∙ g) in
        subst (λ m. slice_set xs i (change y) ≡ changed_at number m change xs) (sym (ap number same) ∙ e)
        (changed_there change xs i y h g);
  }

  place :
      (n : ℕ) (xs : List X) (i : ℕ) → RisesBy number xs → i < length xs →
      ((d : X) → nat_cmp (number (get_or xs i d)) n ≡ Equal) → IsPlaceAt number n xs i
  place n xs i h below at =
      elim (slice_get_cases xs i).1 [
        | inl found ↦ placed n xs i found.0 h below found.2
            (cmp_equal _ _ (subst (λ y. nat_cmp (number y) n ≡ Equal) found.3 (at found.0)))
        | inr past ↦ absurd
            (omega (arith, past.0))
      ]

  -- a binary search by number finds the place of a number, or its gap
  pub IsPlaceOf-from_search :
      (n : ℕ) (xs : List X) (r : Result ℕ ℕ) → RisesBy number xs → IsSearchInRange r (length xs) →
      IsBinarySearchResult (λ y. nat_cmp (number y) n) xs r → IsPlaceOf number n xs r
  IsPlaceOf-from_search n xs (Ok i) h bound found = place n xs i h bound found
  IsPlaceOf-from_search n xs (Err i) h bound found =
      let parts = found (searchable_from_sorted nat_cmp_total number xs n (searchable n xs h)) in
      gap n xs i bound (λ k d l. cmp_less _ _ (parts.0 k d (omega arith) l))
      (λ k d l m. cmp_greater _ _ (parts.1 k d l m))

  -- a change of what was read at the place of a number
  module _ (n : ℕ) (xs : List X) (i : ℕ) (x : X) (change : X → X) where
    pub changed_at-place : IsPlaceAt number n xs i → x ≡ get_or xs i x →
        slice_set xs i (change x) ≡ changed_at number n change xs
    changed_at-place found read = found.changed change x (slice_get_read xs (length xs) i x refl found.below read)

    pub RisesBy-place : ((y : X) → number (change y) ≡ number y) → RisesBy number xs → IsPlaceAt number n xs i →
        x ≡ get_or xs i x → RisesBy number (slice_set xs i (change x))
    RisesBy-place keeps rises found read = rw (changed_at-place found read) (RisesBy-changed n change keeps xs rises)

  -- one more at the gap of its number
  module _ (xs : List X) (i : ℕ) (x : X) where
    pub RisesBy-gap : RisesBy number xs → IsGapAt number (number x) xs i → RisesBy number (insert xs i x)
    RisesBy-gap rises missing = rw (missing.put x refl) (RisesBy-with x xs missing.missing rises)
