-- Answers to the goals of `body::Body::slot`.
use Rattle.cf_body.proofs.Placing.{few_slots}
use Rattle.cf_body.proofs.body.Body.slot.Goals as goal

pub returns-clause-few : goal.returns-clause-few
returns-clause-few c = few_slots _ _ _ c.self.invariant c.slot_in.ensures
