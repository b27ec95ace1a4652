-- Which times a clock that tells a list of them fixes: at each tick the greater of the least date of a sleeper and the
-- clock's next time, and the date alone if the list is at its end. This project's own.
use Rattle.std.specs.Prelude.{◌≡◌, ℕ, List, [], ◌∷◌, drop, Option, Some, None}
use Rattle.cf_syntax.specs.declared.script.Script.{Script}
use Rattle.cf_next.specs.declared.action.Action.{Action}
use Rattle.cf_next.specs.declared.action.Action.TheVariants as actions
use Rattle.cf_model.specs.declared.entry.Entry.{Entry}
use Rattle.cf_model.specs.State.{State, start}
use Rattle.cf_model.specs.Journals.{after_action, due_date}
use Rattle.cf_model.specs.Runs.{time_given}

-- a time is that of a clock that tells these times, if there is a date
abbrev pub IsTimeGiven : ℕ → (date : Option ℕ) → (times : List ℕ) → Type 0
IsTimeGiven time None times = ⊥
IsTimeGiven time (Some date) times = time ≡ time_given date times

-- a tick goes to that time
abbrev pub IsTickBy : (date : Option ℕ) → (times : List ℕ) → Action → Type 0
IsTickBy date times (actions.Tick time) = IsTimeGiven time date times
IsTickBy date times _ = Unit {0}

-- a tick takes one time from the list
abbrev pub times_left : Action → List ℕ → List ℕ
times_left (actions.Tick time) times = drop 1 times
times_left _ times = times

-- the same of entries, from a state on
abbrev pub IsTimedFrom : Script → State → (times : List ℕ) → List Entry → Type 0
IsTimedFrom s st times [] = Unit {0}
IsTimedFrom s st times (e ∷ es) =
    IsTickBy (due_date s st) times e.action
    × IsTimedFrom s (after_action s e.thread st e.action) (times_left e.action times) es

-- the ticks of a journal go to the times of a clock that tells this list
abbrev pub IsTimed : Script → (times : List ℕ) → List Entry → Type 0
IsTimed s times es = IsTimedFrom s (start s) times es
