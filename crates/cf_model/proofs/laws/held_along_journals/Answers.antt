-- Answers to the goals of `laws::held_along_journals`.
use Rattle.cf_model.proofs.Sound.{sound}
use Rattle.cf_model.proofs.laws.held_along_journals.Goals as goal

pub returns : goal.returns
returns c = λ s es own. (sound s es own).held
