-- Answers to the goals of `laws::lead_tells_the_times`.
use Rattle.cf_model.proofs.Sharing.{times_by_lead}
use Rattle.cf_model.proofs.laws.lead_tells_the_times.Goals as goal

pub returns : goal.returns
returns c = times_by_lead
