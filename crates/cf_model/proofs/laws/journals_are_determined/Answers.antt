-- Answers to the goals of `laws::journals_are_determined`.
use Rattle.cf_model.proofs.Entries.{determined}
use Rattle.cf_model.proofs.laws.journals_are_determined.Goals as goal

pub returns : goal.returns
returns c = determined
