-- Answers to the goals of `joins::join`.
use Rattle.cf_links.proofs.Steps.{joins_from}
use Rattle.cf_links.proofs.joins.join.Goals as goal

pub returns-clause-joins : goal.returns-clause-joins
returns-clause-joins g c = joins_from _ _ _ _ _ _ c.set_next.ensures.leads c.set_prev.ensures.leads
