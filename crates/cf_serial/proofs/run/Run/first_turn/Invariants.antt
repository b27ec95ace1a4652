-- The loop invariants of `run::Run::first_turn`.
use Rattle.std.proofs.Common.{◌≡◌, ℕ, ◌<◌, ◌≤◌, false}
use Rattle.cf_serial.specs.Running.{can_act}
use Rattle.cf_serial.proofs.run.Run.first_turn.Given as goal

-- the run is as it was, and no thread so far can go on
abbrev pub invariant-loop-t : goal.invariant-loop-t
invariant-loop-t l = record {
  same : l.self ≡ l.fn.self;
  none : (u : ℕ) → l.from ≤ u → u < l.t → can_act l.fn.self u ≡ false;
}
