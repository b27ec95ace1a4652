-- Answers to the goals of `uses::knows_live`.
use Rattle.cf_state.specs.States.{state_of}
use Rattle.cf_machine.proofs.Using.{know-decides}
use Rattle.cf_machine.proofs.uses.knows_live.Goals as goal

pub returns : goal.returns
returns c = λ owners.
    know-decides (state_of c.args.state.now) c.args.thread c.args.object owners c.is_live.result c.is_live.ensures
