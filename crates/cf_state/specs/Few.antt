-- Objects, slots and registrations are few enough for their numbers.
use Rattle.std.specs.Prelude.{ℕ, ◌≤◌, List, Option, length}
use Rattle.cf_ids.specs.declared.limits.TheConstants.{OBJECTS}
use Rattle.rl_base.specs.declared.registrations.Registration.{Registration}
use Rattle.cf_contents.specs.Contents.{Object}

-- there are at most 65,536 objects, and each number of slots that were given up, and of registrations, has one after it
-- below 2^32
pub record IsFew (obs : List Object) (bodies : List ℕ) (places : List (Option Registration)) : Type 0 where
  pub objects : length obs ≤ OBJECTS
  pub slots : length bodies ≤ 4294967294
  pub registrations : length places ≤ 4294967294
