-- Answers to the goals of `run::Run::begin`.
use Rattle.cf_serial.proofs.Starting.{begun_run}
use Rattle.cf_serial.proofs.run.Run.begin.Goals as goal

pub returns-clause-run : goal.returns-clause-run
returns-clause-run c =
    let value = c.script-owned.ensures.value in
    begun_run c.args.script c.args.limit c.threads-threads.result c.new.result c.begin.new.self c.in_ok-begin.ensures.begun
    c.script-owned.ensures.owned c.requires.most (rw value at c.threads-threads.ensures.count) c.threads-threads.ensures.few (rw value at c.has_numbers.ensures).modes.few c.new.ensures

pub returns-clause-world : goal.returns-clause-world
returns-clause-world c = c.in_ok-begin.ensures.begun
