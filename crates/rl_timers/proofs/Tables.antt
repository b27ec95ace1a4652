-- The table of timers: what stands at the place of a number, and what an edit there does to the timers that are seen.
use Rattle.std.proofs.Common.{◌≡◌, ℕ, zero, suc, ◌+◌, ◌<◌, ◌≤◌, eqb, ltb, List, [], ◌∷◌, ◌++◌, length, get_or, take, drop, Some, None, refl, sym, ap, ◌∙◌, inl, inr, arith}
use Rattle.std.specs.List.{All, AllWithin, slice_get}
use Rattle.std.specs.List.Sorted.{IsPartitionedBy}
use Rattle.std.specs.Option.{option_map}
use Rattle.std.proofs.lemmas.Bool.{cases_Bool, cases_lt, ltb-true, eq-eqb, ne_eqb, lt-ltb, le-ltb}
use Rattle.std.proofs.lemmas.List.{get_or-take, get_or-drop, length-take-le, length-drop, take-append-drop}
use Rattle.std.proofs.lemmas.List.Elements.{All-cons, All-head, All-tail, All-nil, All-weaker, All-append}
use Rattle.std.proofs.lemmas.Option.{same_Some}
use Rattle.rl_timers.specs.declared.rows.Row.{Row}
use Rattle.rl_timers.specs.Timings.{Timer, with_timer, timer_at, changed}
use Rattle.rl_timers.specs.Rows.{timer_of, timers_of, row_at, IsRising}

-- the rows have lower numbers than t; none has a higher one
abbrev pub AreBelow : ℕ → List Row → Type 0
AreBelow t = All (λ r. r.number < t)

abbrev pub AreAbove : ℕ → List Row → Type 0
AreAbove t = All (λ r. t < r.number)

abbrev pub AreAtLeast : ℕ → List Row → Type 0
AreAtLeast t = All (λ r. t ≤ r.number)

All-parts : (P : Row → Type 0) (xs ys : List Row) → All P (xs ++ ys) → All P xs × All P ys
All-parts P [] ys all = (All-nil P, all)
All-parts P (x ∷ xs) ys all =
    let rest = All-parts P xs ys (All-tail P x (xs ++ ys) all) in
    (All-cons P x xs (All-head P x (xs ++ ys) all) rest.0, rest.1)

-- ---- a table that rises

-- the numbers to the left of a place are lower than those to the right
abbrev pub AreLower : List Row → List Row → Type 0
AreLower front back = All (λ r. AreAbove r.number back) front

pub rising_parts : (front back : List Row) → IsRising (front ++ back) → IsRising front × IsRising back
    × AreLower front back
rising_parts [] back rising = (tt, rising, All-nil (λ r. AreAbove r.number back))
rising_parts (r ∷ rs) back rising =
    let rest = rising_parts rs back rising.1 in
    let above = All-parts (λ s. r.number < s.number) rs back rising.0 in (
      (above.0, rest.0),
      rest.1,
      All-cons (λ s. AreAbove s.number back) r rs above.1 rest.2,
    )

pub rising_whole : (front back : List Row) → IsRising front → IsRising back → AreLower front back
    → IsRising (front ++ back)
rising_whole [] back one other lower = other
rising_whole (r ∷ rs) back one other lower = (
  All-append (λ s. r.number < s.number) rs back one.0 (All-head (λ s. AreAbove s.number back) r rs lower),
  rising_whole rs back one.1 other (All-tail (λ s. AreAbove s.number back) r rs lower),
)

-- ---- what stands at the place of a number

pub row_at-front : (front back : List Row) (t : ℕ) → AreBelow t front → row_at (front ++ back) t ≡ row_at back t
row_at-front [] back t below = refl
row_at-front (r ∷ rs) back t below =
    let here : r.number < t = All-head (λ s. s.number < t) r rs below in
    rw (ne_eqb r.number t (λ same. omega arith)) (row_at-front rs back t (All-tail (λ s. s.number < t) r rs below))

pub row_at-above : (rows : List Row) (t : ℕ) → AreAbove t rows → row_at rows t ≡ None
row_at-above [] t above = refl
row_at-above (r ∷ rs) t above =
    let here : t < r.number = All-head (λ s. t < s.number) r rs above in
    rw (ne_eqb r.number t (λ same. omega arith)) (row_at-above rs t (All-tail (λ s. t < s.number) r rs above))

pub timer_at_from_row : (rows : List Row) (t : ℕ) → timer_at (timers_of rows) t ≡ option_map timer_of (row_at rows t)
timer_at_from_row [] t = refl
timer_at_from_row (r ∷ rs) t =
    elim (cases_Bool (eqb r.number t)) [
      | inl here ↦ rw here refl
      | inr apart ↦ rw apart (timer_at_from_row rs t)
    ]

-- ---- edits

pub with_timer-place : (front back : List Row) (r : Row) → AreBelow r.number front → AreAbove r.number back
    → with_timer (timer_of r) (timers_of (front ++ back)) ≡ timers_of (front ++ r ∷ back)
with_timer-place [] [] r below above = refl
with_timer-place [] (s ∷ ss) r below above =
    let here : r.number < s.number = All-head (λ q. r.number < q.number) s ss above in
    rw (lt-ltb r.number s.number here) refl
with_timer-place (s ∷ ss) back r below above =
    let here : s.number < r.number = All-head (λ q. q.number < r.number) s ss below in
    rw (le-ltb r.number s.number (omega arith)) (ap (λ l. timer_of s ∷ l)
    (with_timer-place ss back r (All-tail (λ q. q.number < r.number) s ss below) above))

changed-others : (rows : List Row) (t : ℕ) (change : Timer → Timer) → All (λ r. r.number ≡ t → ⊥) rows
    → changed t change (timers_of rows) ≡ timers_of rows
changed-others [] t change others = refl
changed-others (r ∷ rs) t change others =
    rw (ne_eqb r.number t (All-head (λ s. s.number ≡ t → ⊥) r rs others))
    (ap (λ l. timer_of r ∷ l) (changed-others rs t change (All-tail (λ s. s.number ≡ t → ⊥) r rs others)))

pub changed-place : (front back : List Row) (r s : Row) (change : Timer → Timer) → AreBelow r.number front
    → AreAbove r.number back → change (timer_of r) ≡ timer_of s
    → changed r.number change (timers_of (front ++ r ∷ back)) ≡ timers_of (front ++ s ∷ back)
changed-place [] back r s change below above same =
    let rest = changed-others back r.number change (All-weaker (λ q. r.number < q.number)
    (λ q. q.number ≡ r.number → ⊥) (λ q up e. omega arith) back above) in
    rw (eq-eqb r.number r.number refl, same, rest) refl
changed-place (q ∷ qs) back r s change below above same =
    let here : q.number < r.number = All-head (λ p. p.number < r.number) q qs below in
    rw (ne_eqb q.number r.number (λ e. omega arith))
    (ap (λ l. timer_of q ∷ l) (changed-place qs back r s change (All-tail (λ p. p.number < r.number) q qs below) above
    same))

-- ---- the place of a number: how many rows have a lower one

pub rising_at : (rows : List Row) → IsRising rows → (i j : ℕ) (d : Row) → i < j → j < length rows
    → (get_or rows i d).number < (get_or rows j d).number
rising_at [] rising i j d up within = absurd (omega arith)
rising_at (r ∷ rs) rising i zero d up within = absurd (omega arith)
rising_at (r ∷ rs) rising zero (suc j) d up within = rising.0 j d (omega arith)
rising_at (r ∷ rs) rising (suc i) (suc j) d up within = rising_at rs rising.1 i j d (omega arith) (omega arith)

pub lower_first : (rows : List Row) (t : ℕ) → IsRising rows → IsPartitionedBy (λ r. ltb r.number t) rows
lower_first rows t rising i j d up within lower =
    elim (cases_lt i j) [
      | inl before ↦ lt-ltb (get_or rows i d).number t (omega
          (arith, rising_at rows rising i j d before within, ltb-true (get_or rows j d).number t lower))
      | inr same ↦ (
          let e : i ≡ j = omega arith in rw e lower
          )
    ]

-- what is known of the place of a number
pub record StandsAt (rows : List Row) (t place : ℕ) : Type 0 where
  pub within : place ≤ length rows
  pub below : AreBelow t (take place rows)
  pub others : AreAtLeast t (drop place rows)

pub stands_at : (rows : List Row) (t place : ℕ) → place ≤ length rows → AllWithin (λ r. r.number < t) rows 0 place
    → AllWithin (λ r. t ≤ r.number) rows place (length rows) → StandsAt rows t place
stands_at rows t place within lower higher = record {
  within = within;
  below = λ k d short.
      let k_in : k < place = omega (arith, length-take-le place rows within) in
      rw (get_or-take place rows k d k_in) (lower k d (omega arith) k_in);
  others = λ k d short.
      let k_in : place + k < length rows = omega (arith, length-drop place rows) in
      rw (get_or-drop place rows k d) (higher (place + k) d (omega arith) k_in);
}

-- a number that is not at the front of what is left has no row
pub none_left : (rows : List Row) (t : ℕ) → IsRising rows → AreAtLeast t rows
    → ((r : Row) → slice_get rows 0 ≡ Some r → r.number ≡ t → ⊥) → AreAbove t rows
none_left [] t rising others apart = All-nil (λ r. t < r.number)
none_left (r ∷ rs) t rising others apart =
    let least : t ≤ r.number = All-head (λ s. t ≤ s.number) r rs others in
    let differs = apart r refl in
    let here : t < r.number = omega (arith, differs) in
    All-cons (λ s. t < s.number) r rs here (All-weaker (λ s. r.number < s.number) (λ s. t < s.number)
    (λ s up. omega arith) rs rising.0)

rest_rises : (rows : List Row) (p : ℕ) → IsRising rows → IsRising (drop p rows)
rest_rises rows p rising = (rising_parts (take p rows) (drop p rows) (rw (take-append-drop p rows) rising)).1

pub slice_get-drop : {X : Type 0} (rows : List X) (p : ℕ) → slice_get (drop p rows) 0 ≡ slice_get rows p
slice_get-drop [] zero = refl
slice_get-drop [] (suc p) = refl
slice_get-drop (r ∷ rs) zero = refl
slice_get-drop (r ∷ rs) (suc p) = slice_get-drop rs p

-- no row has the number if none of it stands at its place
pub above_from : (rows : List Row) (t p : ℕ) → IsRising rows → StandsAt rows t p
    → ((r : Row) → slice_get rows p ≡ Some r → r.number ≡ t → ⊥) → AreAbove t (drop p rows)
above_from rows t p rising stands apart =
    none_left (drop p rows) t (rest_rises rows p rising) stands.others
    (λ r found. apart r (sym (slice_get-drop rows p) ∙ found))

pub row_at-apart : (rows : List Row) (t p : ℕ) → IsRising rows → StandsAt rows t p
    → ((r : Row) → slice_get rows p ≡ Some r → r.number ≡ t → ⊥) → row_at rows t ≡ None
row_at-apart rows t p rising stands apart =
    ap (λ l. row_at l t) (sym (take-append-drop p rows)) ∙ row_at-front (take p rows) (drop p rows) t stands.below
    ∙ row_at-above (drop p rows) t (above_from rows t p rising stands apart)

pub row_at-here : (rows : List Row) (t p : ℕ) (r : Row) → StandsAt rows t p → slice_get rows p ≡ Some r → r.number ≡ t
    → row_at rows t ≡ Some r
row_at-here rows t p r stands found same =
    ap (λ l. row_at l t) (sym (take-append-drop p rows)) ∙ row_at-front (take p rows) (drop p rows) t stands.below
    ∙ first (drop p rows) (slice_get-drop rows p ∙ found)
  where
    first : (l : List Row) → slice_get l 0 ≡ Some r → row_at l t ≡ Some r
    first [] there = absurd (cc)
    first (q ∷ qs) there =
        let e : q ≡ r = same_Some q r there in
        rw (eq-eqb q.number t (ap (λ (s : Row). s.number) e ∙ same)) there
