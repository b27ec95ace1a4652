-- The loop invariants of `state::State::due_date`.
use Rattle.std.proofs.Common.{◌≡◌, ◌-◌, ◌≤◌, map}
use Rattle.std.specs.List.{range_with_len}
use Rattle.rl_base.specs.Dates.{least_date}
use Rattle.cf_model.specs.Journals.{sleeper_date}
use Rattle.cf_state.specs.States.{state_of}
use Rattle.cf_state.proofs.state.State.due_date.Given as goal

-- the least of the last ones
abbrev pub invariant-loop-left : goal.invariant-loop-left
invariant-loop-left l = record {
  least : l.least ≡ least_date (map (sleeper_date (state_of l.self)) (range_with_len l.left (l.script.thread_count - l.left)));
  within : l.left ≤ l.script.thread_count;
}

abbrev pub decreases-loop-left : goal.decreases-loop-left
decreases-loop-left l = l.left
