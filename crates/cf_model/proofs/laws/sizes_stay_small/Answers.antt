-- Answers to the goals of `laws::sizes_stay_small`.
use Rattle.cf_model.proofs.Adding.{are_few}
use Rattle.cf_model.proofs.laws.sizes_stay_small.Goals as goal

pub returns : goal.returns
returns c = are_few
