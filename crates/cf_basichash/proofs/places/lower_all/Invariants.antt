-- The loop invariants of `places::lower_all`.
use Rattle.cf_basichash.proofs.ClosingLemmas.{IsLowered}
use Rattle.cf_basichash.proofs.places.lower_all.Given as goal

abbrev pub invariant-loop-place : goal.invariant-loop-place
invariant-loop-place l = IsLowered l.gone l.initial.places l.places l.place
