-- Answers to the goals of `run::Run::stall`.
use Rattle.cf_serial.proofs.Leads.{clock_stalled, run_stalled}
use Rattle.cf_serial.proofs.run.Run.stall.Goals as goal

pub returns-clause-step : goal.returns-clause-step
returns-clause-step c =
    run_stalled c.args.self.now c.requires.run c.requires.leads.none c.requires.leads c.stall.new.self c.stall.ensures.entered c.stall.ensures.legal

pub returns-clause-clock : goal.returns-clause-clock
returns-clause-clock c =
    clock_stalled c.args.self.now c.requires.run c.requires.leads.none c.requires.leads c.stall.new.self c.stall.ensures.entered c.stall.ensures.legal
