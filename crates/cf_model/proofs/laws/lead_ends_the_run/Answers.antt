-- Answers to the goals of `laws::lead_ends_the_run`.
use Rattle.cf_model.proofs.Leading.{lead_tells}
use Rattle.cf_model.proofs.laws.lead_ends_the_run.Goals as goal

pub returns : goal.returns
returns c = lead_tells
