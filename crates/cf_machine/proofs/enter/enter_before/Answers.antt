-- Answers to the goals of `enter::enter_before`.
use Rattle.cf_machine.proofs.Entering.{and-also}
use Rattle.cf_machine.proofs.enter.enter_before.Goals as goal

pub returns-clause-legal : goal.returns-clause-legal
returns-clause-legal c =
    and-also c.enter.result _ _ (c.may_come_before.ensures.0 c.if-not-may_come_before.false) c.enter.ensures.legal
