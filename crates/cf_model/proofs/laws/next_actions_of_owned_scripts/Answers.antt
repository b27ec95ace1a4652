-- Answers to the goals of `laws::next_actions_of_owned_scripts`.
use Rattle.cf_syntax.proofs.BlockLaws.{owned_fits}
use Rattle.cf_model.specs.Journals.{After}
use Rattle.cf_model.proofs.Sound.{sound}
use Rattle.cf_model.proofs.OwnedNext.{next_uses, legal_next}
use Rattle.cf_model.proofs.laws.next_actions_of_owned_scripts.Goals as goal

pub returns-clause-uses : goal.returns-clause-uses
returns-clause-uses c = λ s es own t a e. next_uses s (After s es) t a (owned_fits s own) (sound s es own) e

pub returns-clause-legal : goal.returns-clause-legal
returns-clause-legal c = λ s es own t a e room. legal_next s (After s es) t a (owned_fits s own) (sound s es own) e room
