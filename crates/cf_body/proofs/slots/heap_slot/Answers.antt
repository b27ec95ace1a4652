-- Answers to the goals of `slots::heap_slot`.
use Rattle.std.proofs.Common.{sym, ◌∙◌}
use Rattle.cf_body.proofs.Collecting.{heap_at}
use Rattle.cf_body.proofs.slots.heap_slot.Goals as goal

pub returns : goal.returns
returns c =
    heap_at c.args.heap.now.plain c.args.heap.now.rows c.args.k _
    (sym c.plain.ensures ∙ c.if-plain.false) c.at_turn.ensures
