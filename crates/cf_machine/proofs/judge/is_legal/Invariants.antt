-- The loop invariants of `judge::is_legal`.
use Rattle.std.proofs.Common.{length}
use Rattle.cf_state.specs.States.{state_of}
use Rattle.cf_machine.proofs.Judging.{AreLeft}
use Rattle.cf_machine.proofs.judge.is_legal.Given as goal

-- what is left decides, and there is room for it
abbrev pub invariant-loop-entry : goal.invariant-loop-entry
invariant-loop-entry l = AreLeft l.script l.fn.entries l.rest (state_of l.state)

abbrev pub decreases-loop-entry : goal.decreases-loop-entry
decreases-loop-entry l = length l.rest
