-- Answers to the goals of `slot::bag_slot`.
use Rattle.std.proofs.Common.{sym, ◌∙◌}
use Rattle.cf_plain.proofs.Listing.{row-ids-at}
use Rattle.cf_plain.proofs.slot.bag_slot.Goals as goal

pub returns : goal.returns
returns c = c.row_slot.ensures ∙ sym (row-ids-at c.args.rows.now c.args.place)
