-- What a notification centre is to its callers. After the reference of CFNotificationCenter; that a registration has a
-- number, which is never used again, is this project's own.
use Rattle.std.specs.Prelude.{ℕ, List, map, length, filter, Option, None, is_some, if◌then◌else◌, Bool}
use Rattle.rl_base.specs.declared.registrations.Registration.{Registration}
use Rattle.rl_base.specs.Receivers.{is_there_and}

-- every registration that was made, at its number, or None if it was forgotten; and how many more can be made before
-- memory has to be taken
pub record Notices : Type 0 where
  pub made : List (Option Registration)
  pub room : ℕ

-- how many registrations are there
abbrev pub count_there : List (Option Registration) → ℕ
count_there made = length (filter is_some made)

-- the registrations without those that pass a test
abbrev pub without : (Registration → Bool) → List (Option Registration) → List (Option Registration)
without test = map (λ r. if is_there_and test r then None else r)
