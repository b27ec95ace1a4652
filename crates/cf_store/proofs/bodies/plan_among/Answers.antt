-- Answers to the goals of `bodies::plan_among`.
use Rattle.cf_store.proofs.Doing.{can_first}
use Rattle.cf_store.proofs.bodies.plan_among.Goals as goal

pub returns-clause-can : goal.returns-clause-can
returns-clause-can c = can_first _ _ c.args.used.now c.index-used-0.result c.index-used-0-2.result _ c.type_inv.used c.see.ensures c.in_ok-deed.ensures.can
