-- The loop invariants of `places::first`.
use Rattle.std.proofs.Common.{◌-◌, length}
use Rattle.cf_basichash.specs.Places.{steps}
use Rattle.cf_basichash.proofs.PlacesLemmas.{IsSeeking}
use Rattle.cf_basichash.proofs.places.first.Given as goal

abbrev pub invariant-loop-place : goal.invariant-loop-place
invariant-loop-place l = IsSeeking l.places l.home l.number l.place

abbrev pub decreases-loop-place : goal.decreases-loop-place
decreases-loop-place l = length l.places - steps (length l.places) l.home l.place
