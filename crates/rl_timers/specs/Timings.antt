-- What a contract sees of timers, after the Run Loops guide: a timer has a first date and an interval, it fires at its
-- date or later, and then has the next one; an invalid one fires no more. That numbers decide ties is this project's
-- own.
use Rattle.std.specs.Prelude.{ℕ, pos, Bool, true, false, ◌==◌, nat_lt, List, [], ◌∷◌, map, filter, find, Option, Some, None, unwrap_or, if◌then◌else◌}
use Rattle.std.specs.Option.{option_and_then, option_map_or}
use Rattle.cf_ids.specs.declared.numbers.Item.{Item}
use Rattle.rl_base.specs.Dates.{date_after, has_come, least_date}
use Rattle.rl_base.specs.Ranks.{sorted_by}

-- a timer: its number, its first date, its interval, which is 0 if it does not repeat, the date that it has now,
-- and whether it is valid
pub record Timer : Type 0 where
  pub number : ℕ
  pub first : ℕ
  pub interval : ℕ
  pub date : Option ℕ
  pub valid : Bool

-- the timers by rising number, and for how many more there is room
pub record Timing : Type 0 where
  pub timers : List Timer
  pub room : ℕ

-- a timer as it is made: it is valid, and its date is its first
abbrev pub made_timer : (number first interval : ℕ) → Timer
made_timer number first interval =
    record { number = number; first = first; interval = interval; date = Some first; valid = true }

-- the timers with x before the first one of a higher number
abbrev pub with_timer : Timer → List Timer → List Timer
with_timer x [] = x ∷ []
with_timer x (y ∷ ys) = if nat_lt x.number y.number then x ∷ y ∷ ys else y ∷ with_timer x ys

-- the timer of this number, if there is one
abbrev pub timer_at : List Timer → ℕ → Option Timer
timer_at timers t = find (λ x. x.number == t) timers

-- the date that the timer of this number has, whether it is valid or not
abbrev pub date_of : List Timer → ℕ → Option ℕ
date_of timers t = option_and_then (λ x. x.date) (timer_at timers t)

-- whether the number is one of a valid timer
abbrev pub is_valid : List Timer → ℕ → Bool
is_valid timers t = option_map_or (λ x. x.valid) (timer_at timers t) false

-- the date that the timer of this number has, if it is valid
abbrev pub valid_date : List Timer → ℕ → Option ℕ
valid_date timers t = if is_valid timers t then date_of timers t else None

-- whether the number is one of a valid timer with a date of at most now
abbrev pub is_due : List Timer → (now t : ℕ) → Bool
is_due timers now t = has_come (valid_date timers t) now

-- the numbers of items, in their order
abbrev pub numbers_of : List Item → List ℕ
numbers_of items = map (λ item. item.id) items

-- the least date of the valid timers among these numbers, if one of them has a date
abbrev pub least_among : List Timer → List ℕ → Option ℕ
least_among timers numbers = least_date (map (valid_date timers) numbers)

-- those of these numbers that are due, by date and then by number; one that comes twice is there twice
abbrev pub due_among : List Timer → (now : ℕ) → List ℕ → List ℕ
due_among timers now numbers =
    sorted_by (λ t. pos (unwrap_or (date_of timers t) 0)) (filter (is_due timers now) numbers)

-- the timers, where the one of this number is changed
abbrev pub changed : ℕ → (Timer → Timer) → List Timer → List Timer
changed t change timers = map (λ x. if x.number == t then change x else x) timers

-- a timer after a call at the time now
abbrev pub fired : ℕ → Timer → Timer
fired now x = record x { date = date_after x.first x.interval now }

-- a timer that is invalid; it keeps its date
abbrev pub invalidated : Timer → Timer
invalidated x = record x { valid = false }
