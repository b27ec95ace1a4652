-- Answers to the goals of `heap::ElementHeap::add`.
use Rattle.cf_members.proofs.heap.ElementHeap.add.Goals as goal

pub returns-clause-rows : goal.returns-clause-rows
returns-clause-rows c = rw (← c.self.view_is) c.add.ensures.rows
