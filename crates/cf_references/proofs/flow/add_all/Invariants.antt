-- The loop invariants of `flow::add_all`.
use Rattle.std.proofs.Common.{◌≡◌, length, map}
use Rattle.cf_graph.specs.Operations.{add, run}
use Rattle.cf_references.proofs.flow.add_all.Given as goal

abbrev pub invariant-loop-reference : goal.invariant-loop-reference
invariant-loop-reference l = run (map add l.rest) l.references.items ≡ run (map add l.fn.enters) l.initial.references.items

abbrev pub decreases-loop-reference : goal.decreases-loop-reference
decreases-loop-reference l = length l.rest
