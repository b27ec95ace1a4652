-- The loop invariants of `edges::add_bodies`.
use Rattle.std.proofs.Common.{◌≡◌, ◌++◌}
use Rattle.cf_graph.specs.Edges.{edges_of}
use Rattle.cf_next.specs.Held.{below}
use Rattle.cf_world.specs.Referring.{slot_references}
use Rattle.cf_world.proofs.edges.add_bodies.Given as goal

abbrev pub invariant-loop-body : goal.invariant-loop-body
invariant-loop-body l = l.edges.items ≡ l.initial.edges.items ++ edges_of (below (slot_references l.store.bodies) l.body)
