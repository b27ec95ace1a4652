-- Answers to the goals of `laws::next_retains_stay`.
use Rattle.cf_syntax.proofs.BlockLaws.{owned_fits}
use Rattle.cf_model.proofs.Knowing.{ahead_frame}
use Rattle.cf_model.proofs.laws.next_retains_stay.Goals as goal

pub returns : goal.returns
returns c = λ s journal more t own none. ahead_frame s journal more t (owned_fits s own) none
