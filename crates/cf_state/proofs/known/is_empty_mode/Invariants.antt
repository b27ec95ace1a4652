-- The loop invariants of `known::is_empty_mode`.
use Rattle.std.proofs.Common.{◌≡◌, ◌-◌, ◌≤◌, length}
use Rattle.std.specs.List.{range_with_len}
use Rattle.cf_graph.specs.Edges.{has}
use Rattle.cf_graph.specs.Holders.{in_mode}
use Rattle.cf_model.specs.Things.{opens_thing, thing_at}
use Rattle.cf_state.proofs.Listing.{any-chosen}
use Rattle.cf_state.proofs.known.is_empty_mode.Given as goal

-- those that were passed over keep no mode open
abbrev pub invariant-loop-number : goal.invariant-loop-number
invariant-loop-number l = record {
  within : l.number ≤ length l.parts.objects;
  chosen : any-chosen (λ i. has (in_mode l.thread l.mode) i l.edges) (λ i. opens_thing (thing_at l.parts i))
      (range_with_len l.number (length l.parts.objects - l.number))
      ≡ any-chosen (λ i. has (in_mode l.thread l.mode) i l.edges) (λ i. opens_thing (thing_at l.parts i)) (range_with_len 0 (length l.parts.objects));
}

abbrev pub decreases-loop-number : goal.decreases-loop-number
decreases-loop-number l = length l.parts.objects - l.number
