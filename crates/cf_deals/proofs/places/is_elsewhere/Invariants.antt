-- The loop invariants of `places::is_elsewhere`.
use Rattle.std.proofs.Common.{◌≡◌, ◌-◌, ◌≤◌, length, not}
use Rattle.std.specs.Prelude.{◌&&◌, ◌==◌}
use Rattle.std.specs.List.{list_any, range_with_len}
use Rattle.cf_model.specs.Deals.{loop_places, is_elsewhere}
use Rattle.cf_deals.proofs.places.is_elsewhere.Given as goal

-- none of those that were passed over holds it
abbrev pub invariant-loop-other : goal.invariant-loop-other
invariant-loop-other l =
    list_any (λ w. not (w == l.thread) && not (length (loop_places l.script w l.item l.edges) == 0)) (range_with_len l.other (l.script.thread_count - l.other))
    ≡ is_elsewhere l.script l.thread l.item l.edges

abbrev pub decreases-loop-other : goal.decreases-loop-other
decreases-loop-other l = l.script.thread_count - l.other
