use Rattle.std.proofs.Common.{length}
use Rattle.cf_loops.specs.Changing.{IsLeaving}
use Rattle.cf_loops.proofs.changes.leave_places.Given as goal

abbrev pub invariant-loop-place : goal.invariant-loop-place
invariant-loop-place l = IsLeaving l.item l.initial.modes l.modes

abbrev pub decreases-loop-place : goal.decreases-loop-place
decreases-loop-place l = length l.modes.held
