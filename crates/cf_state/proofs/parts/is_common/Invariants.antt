-- The loop invariants of `parts::is_common`.
use Rattle.std.proofs.Common.{◌≡◌, length}
use Rattle.cf_model.specs.State.{is_common}
use Rattle.cf_state.proofs.parts.is_common.Given as goal

-- what is left has it
abbrev pub invariant-loop-common : goal.invariant-loop-common
invariant-loop-common l = is_common l.thread l.rest l.mode ≡ is_common l.thread l.fn.commons l.mode

abbrev pub decreases-loop-common : goal.decreases-loop-common
decreases-loop-common l = length l.rest
