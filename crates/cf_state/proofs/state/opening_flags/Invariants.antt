-- The loop invariants of `state::opening_flags`.
use Rattle.std.proofs.Common.{◌≡◌, ◌-◌, ◌≤◌, map}
use Rattle.std.specs.Prelude.{◌==◌}
use Rattle.std.specs.List.{range_with_len}
use Rattle.cf_model.specs.State.{CommonMode, flags_of}
use Rattle.cf_state.proofs.state.opening_flags.Given as goal

abbrev pub invariant-loop-thread : goal.invariant-loop-thread
invariant-loop-thread l = record {
  made : l.flags.items ≡ map (λ t. flags_of (t == 0)) (range_with_len 0 l.thread);
  within : l.thread ≤ l.script.thread_count;
}

abbrev pub decreases-loop-thread : goal.decreases-loop-thread
decreases-loop-thread l = l.script.thread_count - l.thread
