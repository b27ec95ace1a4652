-- Answers to the goals of `laws::actions_name_what_they_take`.
use Rattle.cf_model.proofs.Cutting.{next_takes}
use Rattle.cf_model.proofs.laws.actions_name_what_they_take.Goals as goal

pub returns : goal.returns
returns c = next_takes
