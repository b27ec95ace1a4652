-- Laws for callers: which timer has a number after one was made or changed.
use Rattle.std.proofs.Common.{◌≡◌, ℕ, Bool, true, false, cond, eqb, ltb, List, [], ◌∷◌, Some, None, refl, sym, ap, ◌∙◌, inl, inr}
use Rattle.std.specs.Option.{option_map}
use Rattle.std.proofs.lemmas.Bool.{cases_Bool, eqb-true, eqb-false, eq-eqb, ne_eqb}
use Rattle.std.proofs.lemmas.Option.{none-some}
use Rattle.rl_timers.specs.Timings.{Timer, with_timer, timer_at, changed}

-- a timer of a new number is the one of that number, and the others stay
pub timer_at-with_timer : (x : Timer) (timers : List Timer) (t : ℕ) → timer_at timers x.number ≡ None
    → timer_at (with_timer x timers) t ≡ cond (eqb x.number t) (Some x) (timer_at timers t)
timer_at-with_timer x [] t new = refl
timer_at-with_timer x (y ∷ ys) t new =
    elim (cases_Bool (ltb x.number y.number)) [
      | inl first ↦ rw first refl
      | inr later ↦ (
          elim (cases_Bool (eqb y.number x.number)) [
            | inl same ↦ absurd (none-some y (sym (rw same at new) ∙ refl))
            | inr differs ↦ rw later (by_tests (eqb y.number t) (eqb x.number t) refl refl differs
                (timer_at-with_timer x ys t (rw differs at new)))
          ]
          )
    ]
  where
    by_tests : (a b : Bool) → eqb y.number t ≡ a → eqb x.number t ≡ b → eqb y.number x.number ≡ false
        → timer_at (with_timer x ys) t ≡ cond (eqb x.number t) (Some x) (timer_at ys t)
        → timer_at (y ∷ with_timer x ys) t ≡ cond (eqb x.number t) (Some x) (timer_at (y ∷ ys) t)
    by_tests true true at_y at_x differs rest = absurd (eqb-false y.number x.number differs
        (eqb-true y.number t at_y ∙ sym (eqb-true x.number t at_x)))
    by_tests true false at_y at_x differs rest = rw (at_y, at_x) refl
    by_tests false b at_y at_x differs rest = rw at_y rest

-- a change that keeps the number changes the timer of its number, and the others stay
pub timer_at-changed : (t : ℕ) (change : Timer → Timer) (timers : List Timer) (u : ℕ)
    → ((x : Timer) → (change x).number ≡ x.number)
    → timer_at (changed t change timers) u ≡ cond (eqb u t) (option_map change (timer_at timers u)) (timer_at timers u)
timer_at-changed t change [] u keeps =
    elim (cases_Bool (eqb u t)) [ inl here ↦ rw here refl | inr apart ↦ rw apart refl ]
timer_at-changed t change (x ∷ xs) u keeps =
    by_tests (eqb x.number t) (eqb x.number u) refl refl (timer_at-changed t change xs u keeps)
  where
    by_tests : (a b : Bool) → eqb x.number t ≡ a → eqb x.number u ≡ b
        → timer_at (changed t change xs) u ≡ cond (eqb u t) (option_map change (timer_at xs u)) (timer_at xs u)
        → timer_at (changed t change (x ∷ xs)) u
        ≡ cond (eqb u t) (option_map change (timer_at (x ∷ xs) u)) (timer_at (x ∷ xs) u)
    by_tests true true at_t at_u rest =
        let same : eqb u t ≡ true = eq-eqb u t (sym (eqb-true x.number u at_u) ∙ eqb-true x.number t at_t) in
        let seen : eqb (change x).number u ≡ true = ap (λ n. eqb n u) (keeps x) ∙ at_u in
        rw (at_t, seen, at_u, same) refl
    by_tests true false at_t at_u rest =
        let seen : eqb (change x).number u ≡ false = ap (λ n. eqb n u) (keeps x) ∙ at_u in
        rw (at_t, seen, at_u) rest
    by_tests false true at_t at_u rest =
        let apart : eqb u t ≡ false = ne_eqb u t (λ same.
        eqb-false x.number t at_t (eqb-true x.number u at_u ∙ same)) in
        rw (at_t, at_u, apart) refl
    by_tests false false at_t at_u rest = rw (at_t, at_u) rest
