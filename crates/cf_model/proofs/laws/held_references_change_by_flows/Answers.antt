-- Answers to the goals of `laws::held_references_change_by_flows`.
use Rattle.cf_model.proofs.Held.{held_changes}
use Rattle.cf_model.proofs.laws.held_references_change_by_flows.Goals as goal

pub returns : goal.returns
returns c = held_changes
