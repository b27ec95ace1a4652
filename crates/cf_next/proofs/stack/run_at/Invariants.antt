-- The loop invariants of `stack::run_at`.
use Rattle.std.proofs.Common.{◌≡◌, ◌≤◌, false, drop, length, reverse, take}
use Rattle.cf_next.specs.Stacks.{code_has_run}
use Rattle.cf_next.proofs.stack.run_at.Given as goal

-- those that were passed over are no runs
abbrev pub invariant-loop-last : goal.invariant-loop-last
invariant-loop-last l = record {
  begins : l.rest ≡ take (length l.rest) l.fn.frames;
  past : code_has_run (reverse (drop (length l.rest) l.fn.frames)) ≡ false;
  within : length l.rest ≤ length l.fn.frames;
}

abbrev pub decreases-loop-last : goal.decreases-loop-last
decreases-loop-last l = length l.rest
