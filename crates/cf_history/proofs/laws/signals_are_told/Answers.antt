-- Answers to the goals of `laws::signals_are_told`.
use Rattle.cf_history.proofs.Along.{signals_agree}
use Rattle.cf_history.proofs.laws.signals_are_told.Goals as goal

pub returns : goal.returns
returns c = signals_agree
