-- Answers to the goals of `laws::lives_are_told`.
use Rattle.cf_history.proofs.Along.{lives_agree}
use Rattle.cf_history.proofs.laws.lives_are_told.Goals as goal

pub returns : goal.returns
returns c = lives_agree
