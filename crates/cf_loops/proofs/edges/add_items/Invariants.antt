use Rattle.std.proofs.Common.{◌≡◌, ◌++◌, map, take}
use Rattle.cf_loops.specs.Edging.{edge_from}
use Rattle.cf_loops.proofs.edges.add_items.Given as goal

abbrev pub invariant-loop-item : goal.invariant-loop-item
invariant-loop-item l = l.edges.items ≡ l.initial.edges.items ++ map (edge_from l.t l.place) (take l.item-index l.items)
