-- Answers to the goals of `laws::nothing_without_threads`.
use Rattle.cf_model.proofs.Sharing.{empty_without_threads}
use Rattle.cf_model.proofs.laws.nothing_without_threads.Goals as goal

pub returns : goal.returns
returns c = empty_without_threads
