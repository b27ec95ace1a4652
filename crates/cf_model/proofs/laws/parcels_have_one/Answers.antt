-- Answers to the goals of `laws::parcels_have_one`.
use Rattle.cf_model.proofs.Parcels.{parcels_one}
use Rattle.cf_model.proofs.laws.parcels_have_one.Goals as goal

pub returns : goal.returns
returns c = parcels_one
