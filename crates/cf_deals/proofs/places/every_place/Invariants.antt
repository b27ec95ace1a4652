-- The loop invariants of `places::every_place`.
use Rattle.std.proofs.Common.{◌≡◌, ◌-◌, ◌++◌}
use Rattle.std.specs.Prelude.{flat_map}
use Rattle.std.specs.List.{range_with_len}
use Rattle.cf_model.specs.Deals.{every_place, held_at, loop_places}
use Rattle.cf_deals.proofs.places.every_place.Given as goal

-- those of the loops that were passed over are listed
abbrev pub invariant-loop-thread : goal.invariant-loop-thread
invariant-loop-thread l =
    l.every.items ++ flat_map (λ u. held_at u l.item (loop_places l.script u l.item l.edges)) (range_with_len l.thread (l.script.thread_count - l.thread))
    ≡ every_place l.script l.item l.edges

abbrev pub decreases-loop-thread : goal.decreases-loop-thread
decreases-loop-thread l = l.script.thread_count - l.thread
