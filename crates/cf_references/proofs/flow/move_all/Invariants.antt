-- The loop invariants of `flow::move_all`.
use Rattle.std.proofs.Common.{◌≡◌, length, map}
use Rattle.cf_graph.specs.Operations.{run}
use Rattle.cf_graph.specs.Flows.{move_by}
use Rattle.cf_model.specs.Own.{moves_to}
use Rattle.cf_references.specs.Views.{holder_of}
use Rattle.cf_references.proofs.flow.move_all.Given as goal

abbrev pub invariant-loop-reference : goal.invariant-loop-reference
invariant-loop-reference l = run (map move_by (moves_to (holder_of l.to) l.rest)) l.references.items ≡ run (map move_by (moves_to (holder_of l.to) l.fn.moves)) l.initial.references.items

abbrev pub decreases-loop-reference : goal.decreases-loop-reference
decreases-loop-reference l = length l.rest
