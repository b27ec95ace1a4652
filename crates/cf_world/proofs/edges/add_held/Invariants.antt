-- The loop invariants of `edges::add_held`.
use Rattle.std.proofs.Common.{◌≡◌, ◌++◌, map, take}
use Rattle.cf_world.specs.Referring.{thread_edge}
use Rattle.cf_world.proofs.edges.add_held.Given as goal

abbrev pub invariant-loop-object : goal.invariant-loop-object
invariant-loop-object l = l.edges.items ≡ l.initial.edges.items ++ map (thread_edge l.t) (take l.object-index l.objects)
