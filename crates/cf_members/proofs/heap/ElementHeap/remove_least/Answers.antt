-- Answers to the goals of `heap::ElementHeap::remove_least`.
use Rattle.cf_members.proofs.Treating.{least_id, least_gone}
use Rattle.cf_members.proofs.heap.ElementHeap.remove_least.Goals as goal

pub returns-clause-out : goal.returns-clause-out
returns-clause-out c = rw (← c.self.view_is, c.id_of.ensures) (least_id _ _ c.self.invariant.callbacks _ _ c.remove_minimum.ensures.answer)

pub returns-clause-rows : goal.returns-clause-rows
returns-clause-rows c = rw (← c.self.view_is) (least_gone _ _ c.self.invariant.callbacks _ _ c.remove_minimum.ensures.rows)
