-- Answers to the goals of `making::make_instance`.
use Rattle.std.proofs.Common.{arith}
use Rattle.cf_store.proofs.making.make_instance.Goals as goal

pub creating-requires-clause-few : goal.creating-requires-clause-few
creating-requires-clause-few c = omega (arith, c.in_ok-fields.ensures.few)
