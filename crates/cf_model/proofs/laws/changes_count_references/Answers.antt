-- Answers to the goals of `laws::changes_count_references`.
use Rattle.cf_model.proofs.ChangeLaws.{references_most, changes_append}
use Rattle.cf_model.proofs.laws.changes_count_references.Goals as goal

pub returns : goal.returns
returns c = λ s es o. record { most = references_most s es o; more = λ later. changes_append s o es later }
