-- Answers to the goals of `laws::changes_grow_by_flows`.
use Rattle.cf_model.proofs.Held.{changes_grow}
use Rattle.cf_model.proofs.laws.changes_grow_by_flows.Goals as goal

pub returns : goal.returns
returns c = changes_grow
