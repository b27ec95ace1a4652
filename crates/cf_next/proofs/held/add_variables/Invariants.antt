-- The loop invariants of `held::add_variables`.
use Rattle.std.proofs.Common.{◌≡◌, ◌++◌}
use Rattle.cf_next.specs.Held.{below, counted_objects}
use Rattle.cf_next.proofs.held.add_variables.Given as goal

abbrev pub invariant-loop-v : goal.invariant-loop-v
invariant-loop-v l = l.out.items ≡ l.initial.out.items ++ below (counted_objects l.table l.counts) l.v
