-- The loop invariants of `edges::add_threads`.
use Rattle.std.proofs.Common.{◌≡◌, ◌++◌}
use Rattle.cf_graph.specs.Edges.{edges_of}
use Rattle.cf_next.specs.Held.{below}
use Rattle.cf_world.specs.Referring.{AllHaveVariables, stand_references, stands_of}
use Rattle.cf_world.proofs.edges.add_threads.Given as goal

abbrev pub invariant-loop-t : goal.invariant-loop-t
invariant-loop-t l = record {
  items : l.edges.items ≡ l.initial.edges.items ++ edges_of (below (stand_references l.script (stands_of l.frames)) l.t);
  variables : AllHaveVariables (stands_of l.frames) l.t;
}
