-- Answers to the goals of `laws::nothing_is_registered`.
use Rattle.cf_model.proofs.Staged.{stage_posts, unregistered}
use Rattle.cf_model.proofs.laws.nothing_is_registered.Goals as goal

pub returns-clause-registrations : goal.returns-clause-registrations
returns-clause-registrations c = unregistered

pub returns-clause-posts : goal.returns-clause-posts
returns-clause-posts c = stage_posts
