use Rattle.std.proofs.Common.{◌≡◌, ◌++◌}
use Rattle.cf_next.specs.Held.{below}
use Rattle.cf_loops.specs.Edging.{mode_edges}
use Rattle.cf_loops.proofs.edges.add_loop.Given as goal

abbrev pub invariant-loop-m : goal.invariant-loop-m
invariant-loop-m l = l.edges.items ≡ l.initial.edges.items ++ below (mode_edges l.t l.modes.held) l.m
