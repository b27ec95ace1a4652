-- The loop invariants of `update::start_all`.
use Rattle.std.proofs.Common.{◌≡◌, ◌-◌, ◌≤◌, ◌++◌, drop, length, map, take, true}
use Rattle.cf_model.specs.State.{Flags}
use Rattle.cf_state.proofs.update.start_all.Given as goal

-- the first ones are changed, and the others are as they were
abbrev pub invariant-loop-thread : goal.invariant-loop-thread
invariant-loop-thread l = record {
  walked : l.flags.items ≡ map (λ (f : Flags). record f { is_started = true })
      (take l.thread l.initial.flags.items) ++ drop l.thread l.initial.flags.items;
  within : l.thread ≤ length l.initial.flags.items;
}

abbrev pub decreases-loop-thread : goal.decreases-loop-thread
decreases-loop-thread l = length l.initial.flags.items - l.thread
