-- The loop invariants of `deal::held_by_all`.
use Rattle.std.proofs.Common.{◌≡◌, map, take}
use Rattle.cf_graph.specs.Edges.{held_by}
use Rattle.cf_references.specs.Views.{holder_of}
use Rattle.cf_deals.proofs.deal.held_by_all.Given as goal

abbrev pub invariant-loop-object : goal.invariant-loop-object
invariant-loop-object l = l.references.items ≡ map (held_by (holder_of l.holder)) (take l.object-index l.objects)
