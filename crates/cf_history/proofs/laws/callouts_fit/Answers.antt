-- Answers to the goals of `laws::callouts_fit`.
use Rattle.cf_history.proofs.CalloutLaws.{callouts_fit}
use Rattle.cf_history.proofs.laws.callouts_fit.Goals as goal

pub returns : goal.returns
returns c = callouts_fit
