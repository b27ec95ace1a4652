-- Answers to the goals of `joins::put`.
use Rattle.cf_links.proofs.Steps.{puts_from}
use Rattle.cf_links.proofs.joins.put.Goals as goal

pub returns-clause-puts : goal.returns-clause-puts
returns-clause-puts g c =
    puts_from _ _ _ _ _ _ _ _ c.join.ensures.joins c.join-2.ensures.joins (c.mark.ensures.marks c.join-2.new.ends)
    c.requires.before c.requires.after
