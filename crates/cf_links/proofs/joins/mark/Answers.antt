-- Answers to the goals of `joins::mark`.
use Rattle.std.proofs.Common.{refl}
use Rattle.cf_links.proofs.FieldLemmas.{same_nodes}
use Rattle.cf_links.proofs.joins.mark.Goals as goal

pub returns-clause-same : goal.returns-clause-same
returns-clause-same g c = same_nodes _ _ _ _ c.index_mut-entry.ensures.value refl
