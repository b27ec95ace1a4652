-- Answers to the goals of `laws::few_objects_are_made`.
use Rattle.cf_model.proofs.Limiting.{few_of_legal}
use Rattle.cf_model.proofs.laws.few_objects_are_made.Goals as goal

pub returns : goal.returns
returns c = few_of_legal
