-- Answers to the goals of `laws::turns_fit`.
use Rattle.cf_history.proofs.TurnLaws.{turns_fit}
use Rattle.cf_history.proofs.laws.turns_fit.Goals as goal

pub returns : goal.returns
returns c = turns_fit
