-- The dates of timers. The Run Loops guide says that a repeating timer keeps to the times that its first date and its
-- interval fix, and that one that is late fires once. That dates are whole numbers below 2^64, and that a date past
-- them is none, is this project's own.
use Rattle.std.specs.Prelude.{◌≡◌, ℕ, ◌+◌, ◌-◌, ◌*◌, ◌/◌, ◌^◌, ◌<◌, ◌≤◌, Bool, false, ◌==◌, nat_lt, nat_le, List, [], ◌∷◌, Option, Some, None, if◌then◌else◌}

-- the least first date plus a multiple of the interval that is above now
pub record IsDateAfter (first interval now date : ℕ) : Type 0 where
  pub multiple : (k : ℕ) × (date ≡ first + k * interval)
  pub above : now < date
  pub least : (k : ℕ) → now < first + k * interval → date ≤ first + k * interval

-- the date of a timer after a call at the time now. It has none if it does not repeat, or if the next one
-- passes 2^64 - 1
abbrev pub date_after : (first interval now : ℕ) → Option ℕ
date_after first interval now =
    if interval == 0 then None
    else (
    let date =
    first + (now + interval - first) / interval * interval in if nat_lt date (2 ^ 64) then Some date else None
    )

-- whether there is a date and it is at most now
abbrev pub has_come : Option ℕ → ℕ → Bool
has_come None now = false
has_come (Some date) now = nat_le date now

-- the earlier one of two dates, each of which there may be or not
abbrev pub earlier : Option ℕ → Option ℕ → Option ℕ
earlier None b = b
earlier (Some a) None = Some a
earlier (Some a) (Some b) = if nat_le a b then Some a else Some b

-- the least of the dates that there are, if there is one
abbrev pub least_date : List (Option ℕ) → Option ℕ
least_date [] = None
least_date (date ∷ dates) = earlier date (least_date dates)
