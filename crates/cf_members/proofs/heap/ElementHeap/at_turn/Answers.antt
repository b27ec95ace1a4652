-- Answers to the goals of `heap::ElementHeap::at_turn`.
use Rattle.cf_members.proofs.Treating.{at_turn, id_in_slot}
use Rattle.cf_members.proofs.heap.ElementHeap.at_turn.Goals as goal

pub returns-then-is_sorted : goal.returns-then-is_sorted
returns-then-is_sorted c =
    rw (← c.self.view_is, c.id_at.ensures)
    (id_in_slot _ _ c.self.invariant.callbacks c.self.inside.elements.rows c.self.inside.elements.slots c.args.k _
    (c.self.invariant.sorted c.if-is_sorted.true) c.at.ensures)

pub returns : goal.returns
returns c =
    rw (← c.self.view_is)
    (at_turn _ _ c.self.invariant.callbacks c.self.inside.elements.rows c.args.k _ c.id_at_turn.ensures)
