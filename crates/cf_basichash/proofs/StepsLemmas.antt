-- How many steps lead from a place on to another where the first place follows the last, and what holds of each place
-- that was passed.
use Rattle.std.proofs.Common.{◌≡◌, ◌≢◌, ℕ, ◌+◌, ◌-◌, ◌<◌, ◌≤◌, ◌⊎◌, inl, inr, subst, arith}
use Rattle.std.proofs.lemmas.Bool.{cases_lt}
use Rattle.std.proofs.lemmas.Bool.Decides.{nat_tests}
use Rattle.cf_basichash.specs.Places.{steps, IsNext}

-- the steps as a sum
pub steps_on : (n h x : ℕ) → h ≤ x → steps n h x + h ≡ x
unfolding steps
steps_on n h x on = grind (arith, nat_tests)

pub steps_round : (n h x : ℕ) → x < h → h ≤ n → steps n h x + h ≡ x + n
unfolding steps
steps_round n h x below in_n = grind (arith, nat_tests)

-- the steps as a sum, by cases
stepped_by : (n h x : ℕ) → h ≤ n → (h ≤ x) ⊎ (x < h)
    → ((h ≤ x) × (steps n h x + h ≡ x)) ⊎ ((x < h) × (steps n h x + h ≡ x + n))
stepped_by n h x in_n (inl on) = inl (on, steps_on n h x on)
stepped_by n h x in_n (inr below) = inr (below, steps_round n h x below in_n)

pub stepped : (n h x : ℕ) → h ≤ n → ((h ≤ x) × (steps n h x + h ≡ x)) ⊎ ((x < h) × (steps n h x + h ≡ x + n))
stepped n h x in_n = stepped_by n h x in_n (elim (cases_lt x h) [ inl lt ↦ inr lt | inr ge ↦ inl ge ])

-- two numbers are the same or not
pub same_or_not : (x y : ℕ) → (x ≡ y) ⊎ (x ≢ y)
same_or_not x y =
    elim (cases_lt x y) [
      | inl lt ↦ inr (omega arith)
      | inr ge ↦ elim (cases_lt y x) [ inl lt ↦ inr (omega arith) | inr e ↦ inl (omega arith) ]
    ]

-- fewer steps than there are places
pub steps_below : (n h x : ℕ) → h < n → x < n → steps n h x < n
steps_below n h x h_in x_in = let s = stepped n h x (omega arith) in omega arith

-- as many steps lead to the same place
pub steps_same : (n h x y : ℕ) → h < n → x < n → y < n → steps n h x ≡ steps n h y → x ≡ y
steps_same n h x y h_in x_in y_in e =
    let s = stepped n h x (omega arith) in
    let t = stepped n h y (omega arith) in
    omega arith

-- to the place that follows it is a step more, but where one comes back to where one began
pub steps_next : (n h p q : ℕ) → h < n → p < n → IsNext n p q → q ≢ h → steps n h q ≡ steps n h p + 1
steps_next n h p q h_in p_in next other =
    let s = stepped n h p (omega arith) in
    let t = stepped n h q (omega arith) in
    omega arith

pub steps_last : (n h p q : ℕ) → h < n → p < n → IsNext n p q → q ≡ h → steps n h p + 1 ≡ n
steps_last n h p q h_in p_in next back = let s = stepped n h p (omega arith) in omega arith

-- no step leads to where one is
pub steps_none : (n h : ℕ) → h ≤ n → steps n h h ≡ 0
steps_none n h h_in = let s = stepped n h h h_in in omega arith

-- what holds of each place that was passed, and of this one, holds of each that is passed up to the next
module _ (n h p q : ℕ) (P : ℕ → Type 0) (h_in : h < n) (p_in : p < n) (next : IsNext n p q)
    (before : (x : ℕ) → x < n → steps n h x < steps n h p → P x) (here : P p) where
  up_to_here : (x : ℕ) → x < n → steps n h x ≤ steps n h p → P x
  up_to_here x x_in le =
      elim (cases_lt (steps n h x) (steps n h p)) [
        | inl lt ↦ before x x_in lt
        | inr ge ↦ subst P (steps_same n h p x h_in p_in x_in (omega arith)) here
      ]

  -- where one comes back to where one began, it holds of all
  pub all_round : q ≡ h → (x : ℕ) → x < n → P x
  all_round back x x_in =
      let last = steps_last n h p q h_in p_in next back in
      let below = steps_below n h x h_in x_in in
      up_to_here x x_in (omega arith)

  by_next : (q ≡ h) ⊎ (q ≢ h) → (x : ℕ) → x < n → steps n h x < steps n h q → P x
  by_next (inl back) x x_in lt = all_round back x x_in
  by_next (inr other) x x_in lt =
      let more = steps_next n h p q h_in p_in next other in
      up_to_here x x_in (omega arith)

  pub along : (x : ℕ) → x < n → steps n h x < steps n h q → P x
  along x x_in lt = by_next (same_or_not q h) x x_in lt

-- the steps that are left become fewer
pub nearer : (n h p q : ℕ) → h < n → p < n → IsNext n p q → q ≢ h → n - steps n h q < n - steps n h p
nearer n h p q h_in p_in next other =
    let more = steps_next n h p q h_in p_in next other in
    let below = steps_below n h q h_in next.within in
    omega arith

-- a place that is passed on the way from h to q, where another that is not passed follows q, stands before q between
-- the two also as seen from `start`
pub record Between (n start hole place q : ℕ) : Type 0 where
  pub after : steps n start hole < steps n start q
  pub before : steps n start q < steps n start place

pub between : (n start h hole place q : ℕ) → start < n → h < n → hole < n → place < n → q < n
    → steps n start hole < steps n start place → steps n h hole < steps n h q → steps n h q ≤ steps n h place
    → q ≢ place → Between n start hole place q
between n start h hole place q start_in h_in hole_in place_in q_in begun passed not_passed other =
    let a = stepped n start hole (omega arith) in
    let b = stepped n start place (omega arith) in
    let c = stepped n start q (omega arith) in
    let d = stepped n h hole (omega arith) in
    let e = stepped n h place (omega arith) in
    let f = stepped n h q (omega arith) in
    record { after = omega arith; before = omega arith }
