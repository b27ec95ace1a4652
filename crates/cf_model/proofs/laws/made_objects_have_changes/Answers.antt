-- Answers to the goals of `laws::made_objects_have_changes`.
use Rattle.cf_model.proofs.Sharing.{made_where_changed}
use Rattle.cf_model.proofs.laws.made_objects_have_changes.Goals as goal

pub returns : goal.returns
returns c = λ s es legal o. made_where_changed s es o legal
