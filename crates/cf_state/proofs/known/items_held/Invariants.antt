-- The loop invariants of `known::items_held`.
use Rattle.std.proofs.Common.{◌≡◌, ◌-◌, ◌++◌, length}
use Rattle.std.specs.Prelude.{filter}
use Rattle.std.specs.List.{range_with_len}
use Rattle.cf_graph.specs.Edges.{has}
use Rattle.cf_model.specs.State.{objects_of}
use Rattle.cf_references.specs.Views.{holder_of}
use Rattle.cf_state.proofs.known.items_held.Given as goal

-- those that were passed over are listed
abbrev pub invariant-loop-number : goal.invariant-loop-number
invariant-loop-number l = record {
  listed : l.items.items ++ filter (λ i. has (holder_of l.holder) i l.edges)
      (range_with_len l.number (length l.parts.objects - l.number))
      ≡ filter (λ i. has (holder_of l.holder) i l.edges) (objects_of l.parts);
}

abbrev pub decreases-loop-number : goal.decreases-loop-number
decreases-loop-number l = length l.parts.objects - l.number
