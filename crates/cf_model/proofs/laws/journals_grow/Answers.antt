-- Answers to the goals of `laws::journals_grow`.
use Rattle.cf_model.proofs.Growth.{grows_by}
use Rattle.cf_model.proofs.laws.journals_grow.Goals as goal

pub returns : goal.returns
returns c = grows_by
