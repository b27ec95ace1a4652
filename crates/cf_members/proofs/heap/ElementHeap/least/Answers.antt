-- Answers to the goals of `heap::ElementHeap::least`.
use Rattle.cf_members.proofs.Treating.{least_id}
use Rattle.cf_members.proofs.heap.ElementHeap.least.Goals as goal

pub returns : goal.returns
returns c = rw (← c.self.view_is, c.id_at.ensures) (least_id _ _ c.self.invariant.callbacks _ _ c.minimum.ensures)
