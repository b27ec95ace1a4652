-- Answers to the goals of `handlers::handler_counts`.
use Rattle.std.proofs.Common.{[], refl}
use Rattle.cf_syntax.specs.BlockLines.{begins}
use Rattle.cf_owncheck.proofs.handlers.handler_counts.Goals as goal

pub returns-clause-counted : goal.returns-clause-counted
returns-clause-counted c = c.count.ensures.counted [] (begins 0) refl c.new-counts.ensures.counted

pub returns-clause-room : goal.returns-clause-room
returns-clause-room c = λ n few. c.count.ensures.room n (c.new-counts.ensures.room _ few)
