-- The loop invariants of `places::places_of`.
use Rattle.cf_basichash.proofs.PlacesLemmas.{IsIndexSoFar}
use Rattle.cf_basichash.proofs.places.places_of.Given as goal

abbrev pub invariant-loop-row : goal.invariant-loop-row
invariant-loop-row l = IsIndexSoFar l.hashes l.places.items l.count l.row
