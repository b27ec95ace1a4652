-- The loop invariants of `steps::objects_of`.
use Rattle.std.proofs.Common.{◌≡◌, map, take}
use Rattle.cf_graph.specs.Edges.{Reference}
use Rattle.cf_steps.proofs.steps.objects_of.Given as goal

abbrev pub invariant-loop-reference : goal.invariant-loop-reference
invariant-loop-reference l = l.numbers.items ≡ map (λ (r : Reference). r.object) (take l.reference-index l.references)
