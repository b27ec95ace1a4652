use Rattle.std.proofs.Common.{◌≡◌, replicate}
use Rattle.cf_loops.specs.Following.{first_loop}
use Rattle.cf_loops.proofs.loops.Loops.new.Given as goal

abbrev pub invariant-loop : goal.invariant-loop
invariant-loop l = l.loops.items ≡ replicate l.counter first_loop
