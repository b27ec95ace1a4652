-- The next and the last number that passes a test, where one more comes to pass it, and where one does not any more.
use Rattle.std.proofs.Common.{◌≡◌, ◌≢◌, ℕ, ◌+◌, ◌<◌, ◌≤◌, Bool, true, false, Option, Some, None, refl, ap, ◌∙◌, ⊎_elim, arith}
use Rattle.std.proofs.lemmas.Bool.{cases_eq, cases_lt, cases_order, both_ways}
use Rattle.cf_notify.specs.Links.{IsNext, IsLast}

-- the same numbers pass
pub next_same : (test test' : ℕ → Bool) → ((j : ℕ) → test' j ≡ test j) → (from : ℕ) (r : Option ℕ)
    → IsNext test from r → IsNext test' from r
next_same test test' same from None next = λ j le. same j ∙ next j le
next_same test test' same from (Some n) next = (next.0, same n ∙ next.1, λ j le lt. same j ∙ next.2 j le lt)

pub last_same : (test test' : ℕ → Bool) → ((j : ℕ) → test' j ≡ test j) → (to : ℕ) (r : Option ℕ) → IsLast test to r
    → IsLast test' to r
last_same test test' same to None last = λ j lt. same j ∙ last j lt
last_same test test' same to (Some n) last = (last.0, same n ∙ last.1, λ j gt lt. same j ∙ last.2 j gt lt)

-- ---- one more passes, after all others

module _ (test test' : ℕ → Bool) (new : ℕ) (same : (j : ℕ) → j ≢ new → test' j ≡ test j) (here : test' new ≡ true) (past : (j : ℕ) → new ≤ j → test j ≡ false) where
  pub next_kept : (from n : ℕ) → IsNext test from (Some n) → IsNext test' from (Some n)
  next_kept from n next =
      let below : n < new = ⊎_elim (λ lt. lt) (λ ge. absurd (both_ways _ (past n ge) next.1)) (cases_lt n new) in (
        next.0,
        same n (λ e. absurd (omega arith)) ∙ next.1,
        λ j le lt. same j (λ e. absurd (omega arith)) ∙ next.2 j
            le lt,
      )

  pub next_new : (from : ℕ) → IsNext test from None → from ≤ new → IsNext test' from (Some new)
  next_new from next le = (le, here, λ j ge lt. same j (λ e. absurd (omega arith)) ∙ next j ge)

  pub next_none : IsNext test' (new + 1) None
  next_none j le = same j (λ e. absurd (omega arith)) ∙ past j (omega arith)

  pub last_kept : (to : ℕ) (r : Option ℕ) → to ≤ new → IsLast test to r → IsLast test' to r
  last_kept to None le last = λ j lt. same j (λ e. absurd (omega arith)) ∙ last j lt
  last_kept to (Some n) le last = (
    last.0,
    same n (λ e. absurd (omega (arith, last.0))) ∙ last.1,
    λ j gt lt. same j
        (λ e. absurd (omega arith)) ∙ last.2 j gt lt,
  )

  pub last_new : IsLast test' (new + 1) (Some new)
  last_new = (omega arith, here, λ j gt lt. absurd (omega arith))

-- ---- one does not pass any more

module _ (test test' : ℕ → Bool) (gone : ℕ) (same : (j : ℕ) → j ≢ gone → test' j ≡ test j) (fails : test' gone ≡ false) where
  still_false : (j : ℕ) → test j ≡ false → test' j ≡ false
  still_false j f = ⊎_elim (λ e. rw e fails) (λ ne. same j ne ∙ f) (cases_eq j gone)

  fails_but : (j : ℕ) → (j ≢ gone → test j ≡ false) → test' j ≡ false
  fails_but j f = ⊎_elim (λ e. rw e fails) (λ ne. same j ne ∙ f ne) (cases_eq j gone)

  pub next_left : (from : ℕ) (r : Option ℕ) → r ≢ Some gone → IsNext test from r → IsNext test' from r
  next_left from None other next = λ j le. still_false j (next j le)
  next_left from (Some n) other next = (
    next.0,
    same n (λ e. other (ap Some e)) ∙ next.1,
    λ j le lt. still_false j
        (next.2 j le lt),
  )

  pub next_over : (from : ℕ) (r : Option ℕ) → IsNext test from (Some gone) → IsNext test (gone + 1) r
      → IsNext test' from r
  next_over from None next after = λ j le. fails_but j (λ ne. ⊎_elim (λ lt. next.2 j le lt)
      (λ ge. after j (omega arith)) (cases_lt j gone))
  next_over from (Some n) next after = (
    omega (arith, next.0, after.0),
    same n (λ e. absurd (omega (arith, after.0))) ∙ after.1,
    λ j le lt. fails_but j (λ ne. ⊎_elim (λ below. next.2 j le below) (λ ge. after.2 j (omega arith) lt)
        (cases_lt j gone)),
  )

  pub last_left : (to : ℕ) (r : Option ℕ) → r ≢ Some gone → IsLast test to r → IsLast test' to r
  last_left to None other last = λ j lt. still_false j (last j lt)
  last_left to (Some n) other last = (
    last.0,
    same n (λ e. other (ap Some e)) ∙ last.1,
    λ j gt lt. still_false j
        (last.2 j gt lt),
  )

  pub last_over : (to : ℕ) (r : Option ℕ) → IsLast test to (Some gone) → IsLast test gone r → IsLast test' to r
  last_over to None last before = λ j lt. fails_but j (λ ne. ⊎_elim (λ below. before j below)
      (λ ge. last.2 j (omega arith) lt) (cases_lt j gone))
  last_over to (Some n) last before = (
    omega (arith, last.0, before.0),
    same n (λ e. absurd (omega (arith, before.0))) ∙ before.1,
    λ j gt lt. fails_but j (λ ne. ⊎_elim (λ below. before.2 j gt below) (λ ge. last.2 j (omega arith) lt)
        (cases_lt j gone)),
  )

-- ---- neighbours name each other

module _ (test : ℕ → Bool) where
  -- the next one is the only one
  pub same_next : (from n : ℕ) (r : Option ℕ) → from ≤ n → test n ≡ true
      → ((j : ℕ) → from ≤ j → j < n → test j ≡ false) → IsNext test from r → r ≡ Some n
  same_next from n None le t none next = absurd (both_ways _ (next n le) t)
  same_next from n (Some m) le t none next =
      ⊎_elim
      (λ e. ap Some e)
      (λ order. ⊎_elim
      (λ lt. absurd (both_ways _ (none m next.0 lt) next.1))
      (λ gt. absurd (both_ways _ (next.2 n le gt) t))
      order)
      (cases_order m n)

  pub same_last : (to n : ℕ) (r : Option ℕ) → n < to → test n ≡ true → ((j : ℕ) → n < j → j < to → test j ≡ false)
      → IsLast test to r → r ≡ Some n
  same_last to n None lt t none last = absurd (both_ways _ (last n lt) t)
  same_last to n (Some m) lt t none last =
      ⊎_elim
      (λ e. ap Some e)
      (λ order. ⊎_elim
      (λ below. absurd (both_ways _ (last.2 n below lt) t))
      (λ above. absurd (both_ways _ (none m above last.0) last.1))
      order)
      (cases_order m n)

  -- k comes right after j, so j comes right before k; and the other way round
  pub prev_from_next : (j k : ℕ) (r : Option ℕ) → test j ≡ true → IsNext test (j + 1) (Some k) → IsLast test k r
      → r ≡ Some j
  prev_from_next j k r t next last = same_last k j r (omega (arith, next.0)) t (λ i gt lt. next.2 i (omega arith) lt)
      last

  pub next_from_prev : (j k : ℕ) (r : Option ℕ) → test k ≡ true → IsLast test k (Some j) → IsNext test (j + 1) r
      → r ≡ Some k
  next_from_prev j k r t last next = same_next (j + 1) k r (omega (arith, last.0)) t
      (λ i ge lt. last.2 i (omega arith) lt) next

  -- nothing comes before the first one, and nothing after the last one
  pub prev_of_first : (k : ℕ) (r : Option ℕ) → IsNext test 0 (Some k) → IsLast test k r → r ≡ None
  prev_of_first k None next last = refl
  prev_of_first k (Some m) next last = absurd (both_ways _ (next.2 m (omega arith) last.0) last.1)

  pub next_of_last : (k to : ℕ) (r : Option ℕ) → ((j : ℕ) → to ≤ j → test j ≡ false) → IsLast test to (Some k)
      → IsNext test (k + 1) r → r ≡ None
  next_of_last k to None past last next = refl
  next_of_last k to (Some m) past last next =
      ⊎_elim
      (λ lt. absurd (both_ways _ (last.2 m (omega (arith, next.0)) lt) next.1))
      (λ ge. absurd (both_ways _ (past m ge) next.1))
      (cases_lt m to)
