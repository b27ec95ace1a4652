-- Answers to the goals of `run::Run::turn_of`.
use Rattle.cf_serial.proofs.Turns.{turn_is}
use Rattle.cf_serial.proofs.run.Run.turn_of.Goals as goal

pub returns-in-Ok-clause-turn : goal.returns-in-Ok-clause-turn
returns-in-Ok-clause-turn c =
    turn_is c.args.self.now c.args.t c.in-Ok.next c.prepare.new.self c.turn_by.result c.requires.run c.requires.thread c.in-Ok.ensures.next c.in-Ok.ensures.room c.turn_by.ensures
