-- What a thread demands in a run alone.
use Rattle.std.specs.Prelude.{◌≡◌, ℕ, Bool, true, false, ◌||◌, List, Option, Some, if◌then◌else◌}
use Rattle.cf_ids.specs.declared.answer.Answer.TheVariants as answers
use Rattle.rl_base.specs.Dates.{earlier, has_come}
use Rattle.cf_next.specs.Advance.{top_kind}
use Rattle.cf_next.specs.Demands.{Demand, calls, closes, enters}
use Rattle.cf_next.specs.Standing.{innermost_run}
use Rattle.cf_model.specs.State.{State, until}
use Rattle.cf_model.specs.Steps.{Step, idle, sleeping}
use Rattle.cf_next.specs.Stands.{Frame, Role, Turn, as_observer, of_run}

-- a role is an observer's
abbrev pub is_observer : Role → Bool
is_observer as_observer = true
is_observer _ = false

-- only a run has it
abbrev pub asks_run : Demand → Bool
asks_run (enters p) = true
asks_run closes = true
asks_run (calls k c) = is_observer k.role
asks_run _ = false

-- the innermost frame is of a run, which is the innermost one
pub record IsInRun (fs : List Frame) : Type 0 where
  pub run : Turn
  pub kind : top_kind fs ≡ of_run run
  pub innermost : innermost_run fs ≡ Some run

-- a loop that was not woken sleeps until the earlier of two dates, unless one of them has come
abbrev pub until_step : State → ℕ → Option ℕ → Option ℕ → Step
until_step st t deadline date =
    if has_come deadline st.parts.time || has_come date st.parts.time then idle st answers.Due
    else sleeping st t (answers.Asleep (earlier deadline date)) (until (earlier deadline date))
