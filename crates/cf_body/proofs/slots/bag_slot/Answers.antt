-- Answers to the goals of `slots::bag_slot`.
use Rattle.std.proofs.Common.{Some, None, sym, ◌∙◌}
use Rattle.cf_body.proofs.Collecting.{bag_at}
use Rattle.cf_body.proofs.slots.bag_slot.Goals as goal

pub returns-in-Some : goal.returns-in-Some
returns-in-Some c =
    bag_at c.args.bag.now.plain c.args.bag.now.rows c.args.k (Some c.in-Some.row)
    (sym c.plain.ensures ∙ c.if-plain.false) c.in-Some.ensures

pub returns-in-None : goal.returns-in-None
returns-in-None c =
    bag_at c.args.bag.now.plain c.args.bag.now.rows c.args.k None
    (sym c.plain.ensures ∙ c.if-plain.false) c.in-None.ensures
