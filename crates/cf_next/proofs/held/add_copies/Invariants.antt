-- The loop invariants of `held::add_copies`.
use Rattle.std.proofs.Common.{◌≡◌, ◌++◌, replicate}
use Rattle.cf_next.proofs.held.add_copies.Given as goal

abbrev pub invariant-loop : goal.invariant-loop
invariant-loop l = l.out.items ≡ l.initial.out.items ++ replicate l.counter l.object
