-- Answers to the goals of `laws::counts_of_flows`.
use Rattle.cf_graph.proofs.Counts.{weigh-run}
use Rattle.cf_graph.proofs.Flows.{weigh-flow}
use Rattle.cf_graph.proofs.laws.counts_of_flows.Goals as goal

pub returns-clause-operations : goal.returns-clause-operations
returns-clause-operations c = weigh-run

pub returns-clause-flows : goal.returns-clause-flows
returns-clause-flows c = weigh-flow
