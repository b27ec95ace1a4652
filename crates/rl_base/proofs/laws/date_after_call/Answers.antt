-- Answers to the goals of `laws::date_after_call`.
use Rattle.rl_base.proofs.DateLaws.{date_after_is}
use Rattle.rl_base.proofs.laws.date_after_call.Goals as goal

pub returns : goal.returns
returns c = date_after_is
