-- Answers to the goals of `laws::entries_add_little`.
use Rattle.cf_model.specs.Journals.{After}
use Rattle.cf_model.proofs.Adding.{entry_adds}
use Rattle.cf_model.proofs.laws.entries_add_little.Goals as goal

pub returns : goal.returns
returns c = λ s es e. entry_adds s e.thread (After s es) e.action
