-- The loop invariants of `edges::add_parcel`.
use Rattle.std.proofs.Common.{◌≡◌, ◌++◌}
use Rattle.cf_graph.specs.Edges.{edges_of}
use Rattle.cf_next.specs.Held.{below}
use Rattle.cf_world.specs.Referring.{place_references}
use Rattle.cf_world.proofs.edges.add_parcel.Given as goal

abbrev pub invariant-loop-k : goal.invariant-loop-k
invariant-loop-k l = l.edges.items ≡ l.initial.edges.items ++ edges_of (below (place_references l.parcels l.t) l.k)
