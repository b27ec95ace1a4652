-- Answers to the goals of `laws::first_is_next`.
use Rattle.cf_model.specs.Journals.{After}
use Rattle.cf_model.proofs.Next.{comes_first}
use Rattle.cf_model.proofs.laws.first_is_next.Goals as goal

pub returns : goal.returns
returns c = λ s journal t o os e. comes_first s (After s journal) t o os e
