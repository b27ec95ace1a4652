-- The loop invariants of `reach::mark_reached`.
use Rattle.std.proofs.Common.{◌+◌, length}
use Rattle.cf_graph.specs.Walks.{marks_left}
use Rattle.cf_graph.proofs.Closure.{IsWalk}
use Rattle.cf_graph.proofs.reach.mark_reached.Given as goal

abbrev pub invariant-loop-place : goal.invariant-loop-place
invariant-loop-place l = IsWalk l.edges l.walk.marks.items l.walk.stack.items

abbrev pub decreases-loop-place : goal.decreases-loop-place
decreases-loop-place l = marks_left l.walk.marks.items + length l.walk.stack.items
