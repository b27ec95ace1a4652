-- Answers to the goals of `laws::references_of_flows`.
use Rattle.cf_graph.proofs.Flows.{degree-flow}
use Rattle.cf_graph.proofs.laws.references_of_flows.Goals as goal

pub returns : goal.returns
returns c = degree-flow
