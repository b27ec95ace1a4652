-- Answers to the goals of `laws::own_references_stay`.
use Rattle.cf_model.proofs.Owners.{own_stays}
use Rattle.cf_model.proofs.laws.own_references_stay.Goals as goal

pub returns : goal.returns
returns c = own_stays
