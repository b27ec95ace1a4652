-- Answers to the goals of `laws::receivers_are_told`.
use Rattle.cf_history.proofs.NoticeLaws.{receivers_agree}
use Rattle.cf_history.proofs.laws.receivers_are_told.Goals as goal

pub returns : goal.returns
returns c = receivers_agree
