-- The loop invariants of `edges::add_parcels`.
use Rattle.std.proofs.Common.{◌≡◌, ◌++◌}
use Rattle.cf_graph.specs.Edges.{edges_of}
use Rattle.cf_next.specs.Held.{below}
use Rattle.cf_world.specs.Referring.{parcel_references}
use Rattle.cf_world.proofs.edges.add_parcels.Given as goal

abbrev pub invariant-loop-t : goal.invariant-loop-t
invariant-loop-t l = l.edges.items ≡ l.initial.edges.items ++ edges_of (below (parcel_references l.parcels) l.t)
