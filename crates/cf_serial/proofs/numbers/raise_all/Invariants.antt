-- The loop invariants of `numbers::raise_all`.
use Rattle.cf_serial.proofs.Raising.{IsRaised}
use Rattle.cf_serial.proofs.numbers.raise_all.Given as goal

abbrev pub invariant-loop-o : goal.invariant-loop-o
invariant-loop-o l = IsRaised l.initial.references.items l.gained l.o-index l.references.items
