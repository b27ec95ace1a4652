-- Answers to the goals of `laws::statements_name_their_own`.
use Rattle.cf_syntax.proofs.NamedLines.{thread_names_own, handler_names_own}
use Rattle.cf_syntax.proofs.laws.statements_name_their_own.Goals as goal

pub returns-clause-threads : goal.returns-clause-threads
returns-clause-threads c = thread_names_own

pub returns-clause-handlers : goal.returns-clause-handlers
returns-clause-handlers c = handler_names_own
