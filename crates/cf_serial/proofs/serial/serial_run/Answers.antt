-- Answers to the goals of `serial::serial_run`.
use Rattle.std.proofs.Common.{◌≡◌, ◌∙◌, sym}
use Rattle.cf_serial.specs.declared.serial.Ran.{Ran}
use Rattle.cf_serial.specs.Serial.{HasRun}
use Rattle.cf_serial.proofs.Closing.{both_ok, has_run, over}
use Rattle.cf_serial.proofs.serial.serial_run.Goals as goal

pub returns-clause-run : goal.returns-clause-run
returns-clause-run g c =
    let r = c.loop-run.run in
    let s = c.args.script in
    let limit = c.args.limit in
    let times = g.C.Clock.times c.args.clock.now in
    let inv = c.loop-run.invariant in
    let done = over r s limit times (g.C.Clock.times c.loop-run.clock) c.ending.result c.loop-run.turn inv.run inv.script inv.limit inv.goes (sym c.goes_on.ensures ∙ c.loop-run-test.false) c.ending.ensures inv.clock in
    both_ok c.finish.result (λ (ran : Ran). ran.journal.items ≡ r.world.journal) (λ (ran : Ran). ran.ending ≡ c.ending.result) (λ (ran : Ran). HasRun s limit times ran.ending ran.journal.items)
    (λ ran journal ending. has_run s limit times c.ending.result ran.ending r.world.journal ran.journal.items done journal ending)
    c.finish.ensures.journal c.finish.ensures.ending
