-- Answers to the goals of `slot::set_slot`.
use Rattle.std.proofs.Common.{sym, ◌∙◌}
use Rattle.cf_plain.proofs.Listing.{ids-at}
use Rattle.cf_plain.proofs.slot.set_slot.Goals as goal

pub returns : goal.returns
returns c = c.member_slot.ensures ∙ sym (ids-at c.args.members.now c.args.place)
