-- Laws of dates: the date after a call, which is found by division, is the one that the sentence names.
use Rattle.std.proofs.Common.{Option, zero, suc, List, [], ◌∷◌, ◌++◌, leb, ◌≡◌, ◌↔◌, ℕ, ◌+◌, ◌-◌, ◌*◌, ◌/◌, ◌%◌, ◌^◌, ◌<◌, ◌≤◌, cond, ltb, Some, None, refl, sym, ap, ◌∙◌, inl, inr, arith}
use Rattle.std.proofs.lemmas.Bool.{ltb-true, lt-ltb, eq-eqb, ne_eqb, leb-true, le-leb, cases_eq, cases_lt, cases_Bool}
use Rattle.std.proofs.lemmas.Bool.Decides.{nat_tests}
use Rattle.std.specs.List.{slice_get}
use Rattle.std.proofs.lemmas.Option.{none-some, same_Some, cond_some}
use Rattle.std.proofs.Math.Nat.{mul-le-mul_left, mul_comm}
use Rattle.rl_base.specs.Dates.{IsDateAfter, date_after, earlier, least_date}

-- the first date plus so many intervals as bring it above now
abbrev next_multiple : (first interval now : ℕ) → ℕ
next_multiple first interval now = first + (now + interval - first) / interval * interval

-- a multiple j of m that is below the quotient q of n by m leaves another m
leaves_one : (n m q r j : ℕ) → m * q + r ≡ n → j < q → j * m + m ≤ n
leaves_one n m q r j whole below =
    let most : m * (j + 1) ≤ m * q = mul-le-mul_left m (omega arith) in omega (arith, mul_comm m j)

-- the quotient q of n by m, and one more, pass n
next_passes : (n m q r : ℕ) → m * q + r ≡ n → r < m → n < q * m + m
next_passes n m q r whole less = omega (arith, mul_comm m q)

next_multiple-is : (first interval now : ℕ) → 0 < interval → IsDateAfter first interval now
    (next_multiple first interval now)
next_multiple-is first m now positive =
    let n = now + m - first in
    let whole : m * (n / m) + n % m ≡ n = omega arith in
    record {
      multiple = (n / m, refl);
      above = (let p = next_passes n m (n / m) (n % m) whole (omega arith) in omega arith);
      least = λ j past.
          elim (cases_lt j (n / m)) [
            | inl below ↦ absurd (let l = leaves_one n m (n / m) (n % m) j whole below in omega arith)
            | inr most ↦ (
                let more : m * (n / m) ≤ m * j = mul-le-mul_left m most in
                omega (arith, mul_comm m j, mul_comm m (n / m))
                )
          ];
    }

same_date : (first interval now a b : ℕ) → IsDateAfter first interval now a → IsDateAfter first interval now b → a ≡ b
same_date first interval now a b one other =
    let some = one.multiple in
    let another = other.multiple in
    let up : a ≤ b = omega (arith, one.least another.0, other.above, another.1) in
    let down : b ≤ a = omega (arith, other.least some.0, one.above, some.1) in
    omega arith

pub date_after_is : (first interval now date : ℕ) → (date_after first interval now ≡ Some date) ↔
    ((0 < interval) × IsDateAfter first interval now date × (date < 2 ^ 64))
date_after_is first interval now date =
    elim (cases_eq interval 0) [
      | inl never ↦ (
        λ e. absurd (none-some date (sym (rw (eq-eqb interval 0 never) refl) ∙ e)),
        λ p. absurd (omega (arith, p.0)),
      )
      | inr repeats ↦ (
          let is = next_multiple-is first interval now (omega arith) in
          let next = next_multiple first interval now in
          let computed : date_after first interval now ≡ cond (ltb next (2 ^ 64)) (Some next) None = rw
          (ne_eqb interval 0 repeats) refl in (
            λ e.
                let both = cond_some (ltb next (2 ^ 64)) next date (sym computed ∙ e) in
                (omega arith, rw (← both.1) is, rw (← both.1) (ltb-true next (2 ^ 64) both.0)),
            λ p.
                let same = same_date first interval now next date is p.1 in
                computed ∙ rw (lt-ltb next (2 ^ 64) (omega (arith, p.2))) (ap Some same),
          )
          )
    ]

-- ---- the least of several dates

earlier-none : (a : Option ℕ) → earlier a None ≡ a
earlier-none None = refl
earlier-none (Some a) = refl

earlier_assoc : (a b c : Option ℕ) → earlier (earlier a b) c ≡ earlier a (earlier b c)
earlier_assoc None b c = refl
earlier_assoc (Some a) None c = refl
earlier_assoc (Some a) (Some b) None = earlier-none (earlier (Some a) (Some b))
earlier_assoc (Some a) (Some b) (Some c) = grind (arith, nat_tests)

-- the least of dates and one more
pub least_date-push : (dates : List (Option ℕ)) (date : Option ℕ) → least_date (dates ++ date ∷ [])
    ≡ earlier (least_date dates) date
least_date-push [] date = earlier-none date
least_date-push (d ∷ ds) date = ap (earlier d) (least_date-push ds date) ∙ sym (earlier_assoc d (least_date ds) date)

-- no date is before m
abbrev pub NoneBefore : ℕ → List (Option ℕ) → Type 0
NoneBefore m dates = (i date : ℕ) → slice_get dates i ≡ Some (Some date) → m ≤ date

least_date-bound : (dates : List (Option ℕ)) (m least : ℕ) → NoneBefore m dates → least_date dates ≡ Some least
    → m ≤ least
least_date-bound [] m least none is = absurd (none-some least is)
least_date-bound (None ∷ ds) m least none is = least_date-bound ds m least (λ i. none (suc i)) is
least_date-bound (Some d ∷ ds) m least none is =
    by_rest (least_date ds) refl is (least_date-bound ds m)
  where
    by_rest : (o : Option ℕ) → least_date ds ≡ o → earlier (Some d) (least_date ds) ≡ Some least
        → ((b : ℕ) → NoneBefore m ds → least_date ds ≡ Some b → m ≤ b) → m ≤ least
    by_rest None rest whole more =
        let one : d ≡ least = same_Some d least (rw rest at whole) in omega (arith, none 0 d refl)
    by_rest (Some b) rest whole more =
        let other : m ≤ b = more b (λ i. none (suc i)) rest in
        let one : cond (leb d b) (Some d) (Some b) ≡ Some least = rw rest at whole in
        let here : m ≤ d = none 0 d refl in
        elim (cases_Bool (leb d b)) [
          | inl first ↦ (
              let same : d ≡ least = same_Some d least (rw first at one) in omega arith
              )
          | inr later ↦ (
              let same : b ≡ least = same_Some b least (rw later at one) in omega arith
              )
        ]

-- a date before which there is none is the least
pub least_date-reached : (dates : List (Option ℕ)) (i m : ℕ) → NoneBefore m dates → slice_get dates i ≡ Some (Some m)
    → least_date dates ≡ Some m
least_date-reached [] i m none found = absurd (none-some (Some m) found)
least_date-reached (d ∷ ds) zero m none found =
    rw (same_Some d (Some m) found) (first (least_date ds) refl)
  where
    first : (o : Option ℕ) → least_date ds ≡ o → earlier (Some m) (least_date ds) ≡ Some m
    first None rest = rw rest refl
    first (Some b) rest =
        let later : m ≤ b = least_date-bound ds m b (λ i. none (suc i)) rest in
        rw (rest, le-leb m b later) refl
least_date-reached (None ∷ ds) (suc i) m none found = least_date-reached ds i m (λ k. none (suc k)) found
least_date-reached (Some d ∷ ds) (suc i) m none found =
    let rest = least_date-reached ds i m (λ k. none (suc k)) found in
    let here : m ≤ d = none 0 d refl in
    rw rest (
    elim (cases_Bool (leb d m)) [
      | inl first ↦ (
          let same : d ≡ m = omega (arith, leb-true d m first) in rw first (ap Some same)
          )
      | inr later ↦ rw later refl
    ]
    )
