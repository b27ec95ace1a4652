-- Answers to the goals of `run::Run::lead_turn`.
use Rattle.cf_serial.proofs.Leads.{lead_goes}
use Rattle.cf_serial.proofs.run.Run.lead_turn.Goals as goal

pub returns : goal.returns
returns c = rw (c.lead_turn_by.ensures, c.lead_next.ensures, c.room.ensures) (lead_goes c.args.self.now c.requires.run c.requires.none)
