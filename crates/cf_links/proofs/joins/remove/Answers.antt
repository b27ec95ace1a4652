-- Answers to the goals of `joins::remove`.
use Rattle.cf_links.proofs.Steps.{removes_from}
use Rattle.cf_links.proofs.joins.remove.Goals as goal

pub returns-clause-removes : goal.returns-clause-removes
returns-clause-removes g c =
    removes_from _ _ _ _ _ _ _ c.join.ensures.joins (c.clear.ensures.clears c.join.new.ends) c.requires.before
    c.requires.after
