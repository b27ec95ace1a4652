-- The loop invariants of `edges::add_body`.
use Rattle.std.proofs.Common.{◌≡◌, ◌++◌, ◌+◌, ◌-◌, ◌≤◌, take, map, length}
use Rattle.cf_graph.specs.Holders.{slot}
use Rattle.cf_graph.specs.Edges.{edges_of, held_by}
use Rattle.cf_contents.specs.Stores.{given_up_in, left_in}
use Rattle.cf_world.proofs.edges.add_body.Given as goal

-- the slots before the place are added, of which there are no more than edges
abbrev pub invariant-loop-object : goal.invariant-loop-object
invariant-loop-object l = record {
  from : given_up_in l.store.bodies l.body ≤ l.place;
  size : l.place ≤ l.initial.place + length l.edges.items;
  items : l.edges.items ≡ l.initial.edges.items ++ edges_of (map (held_by (slot l.body)) (take (l.place - given_up_in l.store.bodies l.body) (left_in l.store.bodies l.body)));
}

abbrev pub decreases-loop-object : goal.decreases-loop-object
decreases-loop-object l = given_up_in l.store.bodies l.body + length (left_in l.store.bodies l.body) - l.place
