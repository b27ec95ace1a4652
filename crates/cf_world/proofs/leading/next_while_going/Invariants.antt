-- The loop invariants of `leading::next_while_going`.
use Rattle.cf_world.specs.Grounds.{state_of}
use Rattle.cf_world.proofs.Awaiting.{Passed}
use Rattle.cf_world.proofs.leading.next_while_going.Given as goal

-- what was found of the threads before
abbrev pub invariant-loop-t : goal.invariant-loop-t
invariant-loop-t l = Passed (state_of l.ground) l.t l.some_sleep l.due
