-- Answers to the goals of `slots::pair_slot`.
use Rattle.std.proofs.Common.{arith, ◌/◌, sym, ◌∙◌}
use Rattle.cf_body.proofs.Placing.{even_slot, odd_slot, no_slot}
use Rattle.cf_body.proofs.slots.pair_slot.Goals as goal

pub returns-then-k-eq0 : goal.returns-then-k-eq0
returns-then-k-eq0 c =
    let half = c.args.k / 2 in
    even_slot c.args.pairs.now.plain c.args.pairs.now.items c.args.k half _ _ (sym c.plain.ensures ∙ c.if-plain.false) c.in-Some.ensures (omega arith)

pub returns-else-k-eq0 : goal.returns-else-k-eq0
returns-else-k-eq0 c =
    let half = c.args.k / 2 in
    odd_slot c.args.pairs.now.plain c.args.pairs.now.items c.args.k half _ _ (sym c.plain.ensures ∙ c.if-plain.false) c.in-Some.ensures (omega arith)

pub returns-in-None : goal.returns-in-None
returns-in-None c =
    let half = c.args.k / 2 in
    no_slot c.args.pairs.now.plain c.args.pairs.now.items c.args.k half (sym c.plain.ensures ∙ c.if-plain.false) c.in-None.ensures (omega arith)
