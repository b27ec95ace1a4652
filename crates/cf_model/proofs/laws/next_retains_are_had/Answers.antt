-- Answers to the goals of `laws::next_retains_are_had`.
use Rattle.cf_syntax.proofs.BlockLaws.{owned_fits}
use Rattle.cf_model.specs.Journals.{After}
use Rattle.cf_model.proofs.Sound.{sound}
use Rattle.cf_model.proofs.OwnedNext.{coming_is_had}
use Rattle.cf_model.proofs.laws.next_retains_are_had.Goals as goal

pub returns : goal.returns
returns c = λ s journal t own o has. coming_is_had s t o (After s journal) (owned_fits s own) (sound s journal own) has
