-- Answers to the goals of `laws::finals_of_legal_journals`.
use Rattle.cf_model.proofs.Finality.{finals_fit}
use Rattle.cf_model.proofs.Held.{never_gained}
use Rattle.cf_model.proofs.laws.finals_of_legal_journals.Goals as goal

pub returns : goal.returns
returns c = λ s es legal. finals_fit s es legal (never_gained s es legal)
