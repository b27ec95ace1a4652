-- Answers to the goals of `run::Run::tick`.
use Rattle.cf_serial.proofs.Leads.{clock_ticked, run_ticked, tick_due}
use Rattle.cf_serial.proofs.run.Run.tick.Goals as goal

pub tick-requires-clause-due : goal.tick-requires-clause-due
tick-requires-clause-due g c =
    tick_due c.args.self.now c.requires.run c.requires.leads.none c.args.date c.reach-time.result c.requires.leads c.reach-time.ensures.not_early

pub returns-clause-step : goal.returns-clause-step
returns-clause-step g c =
    run_ticked c.args.self.now c.requires.run c.requires.leads.none c.args.date c.reach-time.result c.requires.leads c.tick.new.self c.tick.ensures.entered c.tick.ensures.legal

pub returns-clause-clock : goal.returns-clause-clock
returns-clause-clock g c =
    clock_ticked c.args.self.now c.requires.run c.requires.leads.none c.args.date c.reach-time.result c.requires.leads c.tick.new.self c.tick.ensures.entered c.tick.ensures.legal _ _ c.reach-time.ensures.reached c.reach-time.ensures.left
