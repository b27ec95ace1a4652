-- The loop invariants of `thing::times`.
use Rattle.std.proofs.Common.{◌≡◌, ◌+◌, ◌≤◌, length}
use Rattle.cf_contents.specs.Contents.{times}
use Rattle.cf_state.proofs.thing.times.Given as goal

-- those that were passed over are counted
abbrev pub invariant-loop-other : goal.invariant-loop-other
invariant-loop-other l = record {
  counted : times l.number l.rest + l.found ≡ times l.number l.fn.numbers;
  within : l.found + length l.rest ≤ length l.fn.numbers;
}

abbrev pub decreases-loop-other : goal.decreases-loop-other
decreases-loop-other l = length l.rest
