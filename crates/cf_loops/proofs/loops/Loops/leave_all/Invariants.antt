use Rattle.cf_loops.specs.Changing.{HaveLeft}
use Rattle.cf_loops.proofs.loops.Loops.leave_all.Given as goal

abbrev pub invariant-loop-t : goal.invariant-loop-t
invariant-loop-t l = HaveLeft l.i l.t l.initial.self-inside.loops.items l.self-inside.loops.items
