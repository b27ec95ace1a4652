-- The turn of a run frame: what it depends on, and which phase comes next. The tables are those of `rl_turn`, after
-- the Run Loops guide and CFRunLoop.c in outline.
use Rattle.std.specs.Prelude.{ℕ, false, Option, Some, None, is_some, if◌then◌else◌}
use Rattle.rl_base.specs.Dates.{has_come}
use Rattle.rl_turn.specs.declared.phases.Phase.{Phase}
use Rattle.rl_turn.specs.declared.phases.Phase.TheVariants.{Note, Sources, Timers, Test}
use Rattle.rl_turn.specs.declared.phases.TurnFacts.{TurnFacts}
use Rattle.rl_turn.specs.Turn.{next_of, result_of}
use Rattle.cf_next.specs.Facts.{Facts}
use Rattle.cf_next.specs.Stands.{Role, as_observer, as_source, as_timer, Turn, Kind, of_run}

-- what a turn of a thread's run depends on
abbrev pub turn_facts : Facts → ℕ → Turn → TurnFacts
turn_facts facts t r = record {
  handled = r.handled;
  once = r.once;
  past = has_come r.deadline facts.time;
  stopped = r.stopped;
  empty = facts.is_empty t r.mode;
}

-- the result of a test of the run
abbrev pub test_result : Facts → ℕ → Turn → Option ℕ
test_result facts t r = result_of (turn_facts facts t r)

-- the phase after one that was entered. After a test it is the result of that test that decides, whatever has changed
-- since
abbrev pub phase_after : Facts → ℕ → Turn → Phase → Option Phase
phase_after facts t r Test = Some (if is_some r.result then Note 128 else Note 2)
phase_after facts t r p = next_of (turn_facts facts t r) p

-- the phase that is due: a run begins with note 1
abbrev pub phase_due : Facts → ℕ → Turn → Option Phase → Option Phase
phase_due facts t r None = Some (Note 1)
phase_due facts t r (Some p) = phase_after facts t r p

-- the part in which what a phase collects is called
abbrev pub role_at : Phase → Role
role_at Sources = as_source
role_at Timers = as_timer
role_at _ = as_observer

-- a turn after the entry of a phase: a test has a result, or another turn begins, in which no source was called yet
abbrev pub turn_after : Facts → ℕ → Phase → Turn → Turn
turn_after facts t Test r = record r {
  last = Some Test;
  result = test_result facts t r;
  handled = if is_some (test_result facts t r) then r.handled else false;
}
turn_after facts t p r = record r { last = Some p }

-- the same of a frame's kind
abbrev pub kind_after : Facts → ℕ → Phase → Kind → Kind
kind_after facts t p (of_run r) = of_run (turn_after facts t p r)
kind_after facts t p k = k
