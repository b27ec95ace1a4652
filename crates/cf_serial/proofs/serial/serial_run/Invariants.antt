-- The loop invariants of `serial::serial_run`.
use Rattle.std.proofs.Common.{◌≡◌, ◌-◌, length, Some}
use Rattle.cf_serial.specs.Serial.{ClockFits}
use Rattle.cf_serial.specs.Running.{Goes, IsRun}
use Rattle.cf_serial.proofs.serial.serial_run.Given as goal

abbrev pub invariant-loop-run : goal.invariant-loop-run
invariant-loop-run g l = record {
  run : IsRun l.run;
  script : l.run.world.script ≡ Some l.fn.script;
  limit : l.run.world.limit ≡ l.fn.limit;
  goes : Goes l.run l.turn;
  clock : ClockFits l.fn.script l.run.world.journal (g.C.Clock.times l.fn.clock) (g.C.Clock.times l.clock);
}

abbrev pub decreases-loop-run : goal.decreases-loop-run
decreases-loop-run g l = l.fn.limit - length l.run.world.journal
