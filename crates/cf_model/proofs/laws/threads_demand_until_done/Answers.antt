-- Answers to the goals of `laws::threads_demand_until_done`.
use Rattle.cf_model.proofs.BlockFrames.{demands_until_done}
use Rattle.cf_model.proofs.laws.threads_demand_until_done.Goals as goal

pub returns : goal.returns
returns c = demands_until_done
