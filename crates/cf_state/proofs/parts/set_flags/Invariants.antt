-- The loop invariants of `parts::set_flags`.
use Rattle.std.proofs.Common.{◌≡◌, ◌+◌, ◌-◌, length, false}
use Rattle.cf_model.specs.State.{flags_of, with_flags}
use Rattle.cf_state.proofs.parts.set_flags.Given as goal

-- the flags that come after the last ones are those of a thread that is not there
abbrev pub invariant-loop-flags : goal.invariant-loop-flags
invariant-loop-flags l = with_flags l.thread l.next l.flags.items ≡ with_flags l.thread l.next l.initial.flags.items

abbrev pub decreases-loop-flags : goal.decreases-loop-flags
decreases-loop-flags l = l.thread + 1 - length l.flags.items
