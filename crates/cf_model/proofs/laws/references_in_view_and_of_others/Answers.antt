-- Answers to the goals of `laws::references_in_view_and_of_others`.
use Rattle.cf_model.proofs.Sharing.{all_in_view}
use Rattle.cf_model.proofs.laws.references_in_view_and_of_others.Goals as goal

pub returns : goal.returns
returns c = all_in_view
