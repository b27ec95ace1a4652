use Rattle.std.proofs.Common.{◌≡◌, ◌-◌, ◌≤◌, length, take}
use Rattle.std.specs.List.{filter}
use Rattle.cf_loops.specs.Changing.{is_shared, places_at}
use Rattle.cf_loops.proofs.counts.count_shared.Given as goal

abbrev pub invariant-loop-place : goal.invariant-loop-place
invariant-loop-place l = record {
  within : l.k ≤ length (places_at l.item l.modes);
  shared_is : l.shared ≡ length (filter (is_shared l.modes.common_modes) (take l.k (places_at l.item l.modes)));
}

abbrev pub decreases-loop-place : goal.decreases-loop-place
decreases-loop-place l = length (places_at l.item l.modes) - l.k
