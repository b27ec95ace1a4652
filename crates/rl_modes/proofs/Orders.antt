-- Lists in the order of two keys.
use Rattle.std.proofs.Common.{◌≡◌, ◌≢◌, ◌⊎◌, ⊎_elim, inl, inr, sym, subst, ◌∙◌, ℕ, ◌+◌, ◌-◌, ◌<◌, ◌≤◌, Bool, true, false, ◌&&◌, ◌||◌, eqb, ltb, List, length, get_or, arith}
use Rattle.std.specs.List.{AllPairs, insert, list_any}
use Rattle.std.specs.List.Sorted.{IsPartitionedBy}
use Rattle.std.proofs.lemmas.Bool.{cases_order, cases_eq, cases_lt, cases_Bool, both_ways, false_from_ne_true}
use Rattle.std.proofs.lemmas.List.{get_or_default}
use Rattle.std.proofs.lemmas.List.Edits.{length-insert, get_or-insert_below, get_or-insert_at, get_or-insert_above}
use Rattle.std.proofs.lemmas.List.Folds.{list_any_at}
use Rattle.rl_modes.proofs.Cuts.{any_none}
use Rattle.std.proofs.lemmas.Bool.Decides.{nat_tests}
use Rattle.rl_modes.specs.Fields.{IsCut, Precedes}

abbrev pub is_below : (a b m n : ℕ) → Bool
is_below a b m n = ltb m a || (eqb m a && ltb n b)

abbrev pub is_same : (a b m n : ℕ) → Bool
is_same a b m n = eqb m a && eqb n b

below_apart : (a b m n : ℕ) → is_below a b m n ≡ true → is_same a b m n ≡ false
below_apart a b m n h = grind (arith, nat_tests)

below_first : (a b m n : ℕ) → is_below a b m n ≡ true → m ≤ a
below_first a b m n h = grind (arith, nat_tests)

below_second : (a b m n : ℕ) → is_below a b m n ≡ true → m ≡ a → n < b
below_second a b m n h = grind (arith, nat_tests)

pub above_by_first : (a b m n : ℕ) → a < m → is_below a b m n ≡ false
above_by_first a b m n h = grind (arith, nat_tests)

pub above_by_second : (a b m n : ℕ) → m ≡ a → ltb n b ≡ false → is_below a b m n ≡ false
above_by_second a b m n e h = grind (arith, nat_tests)

pub below_by_second : (a b m n : ℕ) → m ≡ a → ltb n b ≡ true → is_below a b m n ≡ true
below_by_second a b m n e h = grind (arith, nat_tests)

pub above_first : (a b m n : ℕ) → is_below a b m n ≡ false → a ≤ m
above_first a b m n h = grind (arith, nat_tests)

above_second : (a b m n : ℕ) → is_below a b m n ≡ false → is_same a b m n ≡ false → a ≡ m → b < n
above_second a b m n h = grind (arith, nat_tests)

above_apart : (a b m n m' n' : ℕ) → is_below a b m n ≡ false → m ≤ m' → (m ≡ m' → n < n') → is_same a b m' n' ≡ false
above_apart a b m n m' n' h firsts seconds = grind (arith, nat_tests)

below_before : (a b m n m' n' : ℕ) → m ≤ m' → (m ≡ m' → n < n') → is_below a b m' n' ≡ true → is_below a b m n ≡ true
below_before a b m n m' n' firsts seconds h = grind (arith, nat_tests)

-- what stands before two keys stands in front
pub order_parted : {A : Type 0} (first second : A → ℕ) (a b : ℕ) (xs : List A) → AllPairs (Precedes first second) xs
    → IsPartitionedBy (λ x. is_below a b (first x) (second x)) xs
order_parted first second a b xs pairs i j d le lt h =
    ⊎_elim
    (λ same. rw same h)
    (λ other. let ahead = pairs i j d (omega arith) lt in below_before a b _ _ _ _ ahead.firsts ahead.seconds h)
    (cases_eq i j)

-- ---- one element more

three_ways : (m n : ℕ) → (m < n) ⊎ ((m ≡ n) ⊎ (n < m))
three_ways m n = ⊎_elim (λ e. inr (inl e)) (⊎_elim (λ lt. inl lt) (λ gt. inr (inr gt))) (cases_order m n)

module _ {A : Type 0} (R : A → A → Type 0) (xs : List A) (k : ℕ) (y : A) (within : k ≤ length xs) where
  -- what a place of the longer list has: what it had, the new element, or what stood one place before
  pub at_place : (P : A → Type 0) (j : ℕ) (d : A) → j < length xs + 1 → (j < k → P (get_or xs j d)) → (j ≡ k → P y)
      → (k < j → P (get_or xs (j - 1) d)) → P (get_or (insert xs k y) j d)
  at_place P j d below before here after =
      ⊎_elim (λ lt. rw (get_or-insert_below xs k y d j lt within) (before lt))
      (⊎_elim (λ e. subst (λ i. P (get_or (insert xs k y) i d)) (sym e) (rw (get_or-insert_at xs k y d within)
      (here e)))
      (λ gt. let e : j ≡ (j - 1) + 1 = omega arith in rw e (rw (get_or-insert_above xs k y d (j - 1) (omega arith)
      within) (after gt))))
      (three_ways j k)

  pub all_pairs_insert : AllPairs R xs → ((j : ℕ) (d : A) → j < k → R (get_or xs j d) y)
      → ((j : ℕ) (d : A) → k ≤ j → j < length xs → R y (get_or xs j d)) → AllPairs R (insert xs k y)
  all_pairs_insert pairs front rest i j d lt below =
      let long : j < length xs + 1 = omega (arith, length-insert xs k y within) in
      at_place (λ x. R x (get_or (insert xs k y) j d)) i d (omega arith)
      (λ il. at_place (λ z. R (get_or xs i d) z) j d long (λ jl. pairs i j d lt (omega arith)) (λ _. front i d il)
      (λ jg. pairs i (j - 1) d (omega arith) (omega arith)))
      (λ ie. at_place (λ z. R y z) j d long (λ jl. absurd (omega arith)) (λ je. absurd (omega arith))
      (λ jg. rest (j - 1) d (omega arith) (omega arith)))
      (λ ig. at_place (λ z. R (get_or xs (i - 1) d) z) j d long (λ jl. absurd (omega arith))
      (λ je. absurd (omega arith)) (λ jg. pairs (i - 1) (j - 1) d (omega arith) (omega arith)))

-- ---- what stands at the place of two keys

module _ {A : Type 0} (first second : A → ℕ) (a b : ℕ) (xs : List A) (k : ℕ) (pairs : AllPairs (Precedes first second) xs) (cut : IsCut (λ x. is_below a b (first x) (second x)) xs k) where
  -- no other place has them
  pub only_at : (j : ℕ) (d : A) → j ≢ k → j < length xs
      → is_same a b (first (get_or xs j d)) (second (get_or xs j d)) ≡ false
  only_at j d other below =
      ⊎_elim (λ lt. below_apart a b _ _ (cut.front j d lt))
      (⊎_elim (λ e. absurd (other e))
      (λ gt. let ahead = pairs k j d gt below in above_apart a b _ _ _ _ (cut.rest k d (omega arith) (omega arith))
      ahead.firsts ahead.seconds))
      (three_ways j k)

  -- so it is there exactly if it is at that place
  pub none_at : ((d : A) → k < length xs → is_same a b (first (get_or xs k d)) (second (get_or xs k d)) ≡ false)
      → list_any (λ x. is_same a b (first x) (second x)) xs ≡ false
  none_at here = any_none _ xs (λ j d below. ⊎_elim (λ e. rw e (here d (omega arith)))
      (λ other. only_at j d other below) (cases_eq j k))

  pub found_at : list_any (λ x. is_same a b (first x) (second x)) xs ≡ true → k < length xs
  found_at h = ⊎_elim (λ lt. lt) (λ ge. absurd (both_ways _ (none_at (λ d lt. absurd (omega arith))) h))
      (cases_lt k (length xs))

  pub is_found : (d : A) → list_any (λ x. is_same a b (first x) (second x)) xs ≡ true
      → is_same a b (first (get_or xs k d)) (second (get_or xs k d)) ≡ true
  is_found d h =
      ⊎_elim (λ t. t)
      (λ f. absurd (both_ways _ (none_at (λ e lt. rw (get_or_default xs k e d lt) f)) h))
      (cases_Bool _)

  -- the element there tells
  pub tells_at : (d : A) → k < length xs
      → is_same a b (first (get_or xs k d)) (second (get_or xs k d)) ≡ list_any
      (λ x. is_same a b (first x) (second x)) xs
  tells_at d lt =
      ⊎_elim
      (λ t. t ∙ sym (list_any_at _ xs k d lt t))
      (λ f. f ∙ sym (none_at (λ e below. rw (get_or_default xs k e d lt) f)))
      (cases_Bool _)

  -- an element with these keys that is not there keeps the order
  pub order_with : (y : A) → first y ≡ a → second y ≡ b → list_any (λ x. is_same a b (first x) (second x)) xs ≡ false
      → AllPairs (Precedes first second) (insert xs k y)
  order_with y fy sy missing = all_pairs_insert (Precedes first second) xs k y cut.within pairs
      (λ j d lt. let t = cut.front j d lt in record {
        firsts = rw fy (below_first a b _ _ t);
        seconds = λ e. rw sy
            (below_second a b _ _ t (e ∙ fy));
      })
      (λ j d ge lt. let t = cut.rest j d ge lt in
      let apart = none_of j d lt in
      record {
        firsts = rw fy (above_first a b _ _ t);
        seconds = λ e. rw sy (above_second a b _ _ t apart
            (sym fy ∙ e));
      })
    where
      none_of : (j : ℕ) (d : A) → j < length xs → is_same a b (first (get_or xs j d)) (second (get_or xs j d)) ≡ false
      none_of j d lt = false_from_ne_true _ (λ t. both_ways _ missing (list_any_at _ xs j d lt t))
