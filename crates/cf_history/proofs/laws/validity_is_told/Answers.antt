-- Answers to the goals of `laws::validity_is_told`.
use Rattle.cf_history.proofs.Along.{validity_agrees}
use Rattle.cf_history.proofs.laws.validity_is_told.Goals as goal

pub returns : goal.returns
returns c = validity_agrees
