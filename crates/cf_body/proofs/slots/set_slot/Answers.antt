-- Answers to the goals of `slots::set_slot`.
use Rattle.std.proofs.Common.{sym, ◌∙◌}
use Rattle.cf_body.proofs.Collecting.{set_at}
use Rattle.cf_body.proofs.slots.set_slot.Goals as goal

pub returns : goal.returns
returns c = set_at _ _ c.args.k _ (sym c.plain.ensures ∙ c.if-plain.false) c.at.ensures
