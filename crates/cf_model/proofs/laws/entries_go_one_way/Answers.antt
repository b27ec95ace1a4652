-- Answers to the goals of `laws::entries_go_one_way`.
use Rattle.cf_model.proofs.Owners.{one_way}
use Rattle.cf_model.proofs.laws.entries_go_one_way.Goals as goal

pub returns : goal.returns
returns c = one_way
