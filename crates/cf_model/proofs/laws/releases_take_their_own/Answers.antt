-- Answers to the goals of `laws::releases_take_their_own`.
use Rattle.cf_syntax.proofs.BlockLaws.{owned_fits}
use Rattle.cf_model.specs.Journals.{After}
use Rattle.cf_model.proofs.Sound.{sound}
use Rattle.cf_model.proofs.OwnedNext.{release_takes}
use Rattle.cf_model.proofs.laws.releases_take_their_own.Goals as goal

pub returns : goal.returns
returns c = λ s es own t v o e is. release_takes s t v o (After s es) (owned_fits s own) (sound s es own) e is
