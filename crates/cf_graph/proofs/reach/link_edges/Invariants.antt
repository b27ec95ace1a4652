-- The loop invariants of `reach::link_edges`.
use Rattle.cf_graph.specs.Walks.{sources, IsLinked}
use Rattle.cf_graph.proofs.reach.link_edges.Given as goal

abbrev pub invariant-loop-i : goal.invariant-loop-i
invariant-loop-i l = IsLinked (sources l.edges) l.i l.latest.items l.before.items
