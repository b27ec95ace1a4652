-- Answers to the goals of `slot::pair_slot`.
use Rattle.std.proofs.Common.{sym, ◌∙◌, refl, arith}
use Rattle.cf_plain.proofs.Listing.{flat-key, flat-value}
use Rattle.cf_plain.proofs.slot.pair_slot.Goals as goal

pub returns-then-place-eq0 : goal.returns-then-place-eq0
returns-then-place-eq0 c = c.key_in.ensures ∙ sym (flat-key c.args.pairs.now _ c.args.place (omega arith) refl)

pub returns-else-place-eq0 : goal.returns-else-place-eq0
returns-else-place-eq0 c = c.value_in.ensures ∙ sym (flat-value c.args.pairs.now _ c.args.place (omega arith) refl)
