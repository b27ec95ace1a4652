-- Answers to the goals of `laws::entries_add_few_references`.
use Rattle.cf_model.specs.Journals.{After}
use Rattle.cf_model.proofs.Gaining.{few_gained}
use Rattle.cf_model.proofs.laws.entries_add_few_references.Goals as goal

pub returns : goal.returns
returns c = λ s journal e o modes. few_gained s (After s journal) e.thread e.action o modes
