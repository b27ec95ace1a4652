-- Answers to the goals of `laws::gains_are_listed`.
use Rattle.cf_model.proofs.Listing.{gains_are_listed}
use Rattle.cf_model.proofs.laws.gains_are_listed.Goals as goal

pub returns : goal.returns
returns c = gains_are_listed
