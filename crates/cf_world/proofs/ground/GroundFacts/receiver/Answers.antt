-- Answers to the goals of `ground::GroundFacts::receiver`.
use Rattle.cf_world.specs.Grounds.{state_of}
use Rattle.cf_world.proofs.Telling.{no_receiver}
use Rattle.cf_world.proofs.ground.GroundFacts.receiver.Goals as goal

pub returns : goal.returns
returns c = no_receiver (state_of c.args.self.now).parts c.args._r c.script.ensures.unregistered
