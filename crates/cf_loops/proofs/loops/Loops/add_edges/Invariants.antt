use Rattle.std.proofs.Common.{◌≡◌, ◌++◌}
use Rattle.cf_next.specs.Held.{below}
use Rattle.cf_loops.specs.Edging.{thread_edges}
use Rattle.cf_loops.proofs.loops.Loops.add_edges.Given as goal

abbrev pub invariant-loop-t : goal.invariant-loop-t
invariant-loop-t l = l.edges.items ≡ l.initial.edges.items ++ below (thread_edges l.self) l.t
