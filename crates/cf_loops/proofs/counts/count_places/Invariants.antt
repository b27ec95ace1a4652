use Rattle.std.proofs.Common.{◌-◌, ◌≤◌, length}
use Rattle.cf_loops.specs.Changing.{places_at}
use Rattle.cf_loops.proofs.counts.count_places.Given as goal

abbrev pub invariant-loop-item : goal.invariant-loop-item
invariant-loop-item l = l.k ≤ length (places_at l.item l.modes)

abbrev pub decreases-loop-item : goal.decreases-loop-item
decreases-loop-item l = length (places_at l.item l.modes) - l.k
