-- What a journal says of time: the time itself, and the dates of timers. After the Run Loops guide: a repeating timer
-- keeps to the times that its first date and its interval fix.
use Rattle.std.specs.Prelude.{ℕ, Bool, ◌&&◌, List, [], ◌∷◌, Option, Some, None, if◌then◌else◌}
use Rattle.rl_base.specs.Dates.{date_after, has_come}
use Rattle.cf_syntax.specs.declared.script.Script.{Script}
use Rattle.cf_syntax.specs.declared.statement.Statement.{Statement}
use Rattle.cf_syntax.specs.declared.statement.Statement.TheVariants as forms
use Rattle.cf_next.specs.declared.action.Action.{Action}
use Rattle.cf_next.specs.declared.action.Action.TheVariants as actions
use Rattle.cf_model.specs.declared.entry.Entry.{Entry}
use Rattle.cf_history.specs.Written.{statement_of}
use Rattle.cf_history.specs.History.{calls, binds, is_valid_after}

-- the time after an action: only a tick moves it
abbrev pub time_in : ℕ → Action → ℕ
time_in now (actions.Tick time) = time
time_in now _ = now

-- the time after entries, from a time on
abbrev pub time_from : ℕ → List Entry → ℕ
time_from now [] = now
time_from now (e ∷ es) = time_from (time_in now e.action) es

-- the time after entries is that of the last tick
abbrev pub time_after : List Entry → ℕ
time_after es = time_from 0 es

-- ---- dates

-- the first date of a timer and its interval, as the statement that makes it says
pub record Timing : Type 0 where
  pub first : ℕ
  pub interval : ℕ

-- the dates of the timer that a statement makes, if it makes one
abbrev pub timing_in : Option Statement → Option Timing
timing_in (Some (forms.MakeTimer v first interval handler info)) = Some (record { first = first; interval = interval })
timing_in _ = None

-- they are those of this object, if the entry binds it
abbrev pub timing_if : Bool → Option Timing → Option Timing
timing_if bound None = None
timing_if bound (Some x) = if bound then Some x else None

-- the dates of this timer, if the entry makes it
abbrev pub timing_by : Script → ℕ → Entry → Option Timing
timing_by s i e = timing_if (binds i e) (timing_in (statement_of s e.action))

-- the first that there is
abbrev pub or_timing : Option Timing → Option Timing → Option Timing
or_timing None other = other
or_timing (Some x) other = Some x

-- the dates of a timer that entries made, if one did
abbrev pub timing_of : Script → List Entry → ℕ → Option Timing
timing_of s [] i = None
timing_of s (e ∷ es) i = or_timing (timing_by s i e) (timing_of s es i)

-- the time of the last call of an item, from a time on, after an earlier call if there was one
abbrev pub call_from : ℕ → (now : ℕ) (last : Option ℕ) → List Entry → Option ℕ
call_from i now last [] = last
call_from i now last (e ∷ es) = call_from i (time_in now e.action) (if calls i e then Some now else last) es

-- the time of the last call of an item, if it was called
abbrev pub last_call : List Entry → ℕ → Option ℕ
last_call es i = call_from i 0 None es

-- a timer's date is its first one before any call; after a call it is the next one that its interval gives, if there
-- is one
abbrev pub date_by : Option Timing → Option ℕ → Option ℕ
date_by None call = None
date_by (Some x) None = Some x.first
date_by (Some x) (Some time) = date_after x.first x.interval time

-- the date of a timer after entries
abbrev pub date_after_entries : Script → List Entry → ℕ → Option ℕ
date_after_entries s es i = date_by (timing_of s es i) (last_call es i)

-- a timer is due after entries: it is valid, and its date is at most the time
abbrev pub is_due_after : Script → List Entry → ℕ → Bool
is_due_after s es i = is_valid_after es i && has_come (date_after_entries s es i) (time_after es)
