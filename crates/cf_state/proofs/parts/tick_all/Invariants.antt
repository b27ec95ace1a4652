-- The loop invariants of `parts::tick_all`.
use Rattle.std.proofs.Common.{◌≡◌, ◌-◌, ◌≤◌, ◌++◌, drop, length, map, take}
use Rattle.cf_model.specs.Journals.{tick_flags}
use Rattle.cf_state.proofs.parts.tick_all.Given as goal

-- the first ones are changed, and the others are as they were
abbrev pub invariant-loop-thread : goal.invariant-loop-thread
invariant-loop-thread l = record {
  walked : l.flags.items ≡ map (tick_flags l.time)
      (take l.thread l.initial.flags.items) ++ drop l.thread l.initial.flags.items;
  within : l.thread ≤ length l.initial.flags.items;
}

abbrev pub decreases-loop-thread : goal.decreases-loop-thread
decreases-loop-thread l = length l.initial.flags.items - l.thread
