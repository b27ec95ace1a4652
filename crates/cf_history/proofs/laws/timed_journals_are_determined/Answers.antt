-- Answers to the goals of `laws::timed_journals_are_determined`.
use Rattle.cf_history.proofs.SerialLaws.{only_timed}
use Rattle.cf_history.proofs.laws.timed_journals_are_determined.Goals as goal

pub returns : goal.returns
returns c = only_timed
