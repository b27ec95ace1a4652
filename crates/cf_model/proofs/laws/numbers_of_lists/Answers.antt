-- Answers to the goals of `laws::numbers_of_lists`.
use Rattle.cf_model.proofs.Numbering.{are_numbered}
use Rattle.cf_model.proofs.laws.numbers_of_lists.Goals as goal

pub returns : goal.returns
returns c = are_numbered
