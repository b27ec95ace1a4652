-- Answers to the goals of `state::State::known`.
use Rattle.std.proofs.Common.{ap}
use Rattle.cf_state.specs.Known.{facts_in}
use Rattle.cf_state.proofs.state.State.known.Goals as goal

pub returns : goal.returns
returns c = ap (facts_in c.args.self.now.parts) c.as_slice.ensures.value
