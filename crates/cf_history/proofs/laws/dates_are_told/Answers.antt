-- Answers to the goals of `laws::dates_are_told`.
use Rattle.cf_history.proofs.Along.{dates_agree}
use Rattle.cf_history.proofs.laws.dates_are_told.Goals as goal

pub returns : goal.returns
returns c = dates_agree
