-- The loop invariants of `places::close`.
use Rattle.std.proofs.Common.{◌-◌, length}
use Rattle.cf_basichash.specs.Places.{steps}
use Rattle.cf_basichash.proofs.ClosingLemmas.{IsClosing}
use Rattle.cf_basichash.proofs.places.close.Given as goal

abbrev pub invariant-loop-places : goal.invariant-loop-places
invariant-loop-places l = IsClosing l.hashes l.initial.places l.places l.start l.hole l.place

abbrev pub decreases-loop-places : goal.decreases-loop-places
decreases-loop-places l = length l.places - steps (length l.places) l.start l.place
