-- Answers to the goals of `known::KnownFacts::slot`.
use Rattle.cf_state.proofs.Few.{slot-low}
use Rattle.cf_state.proofs.known.KnownFacts.slot.Goals as goal

pub returns-clause-place : goal.returns-clause-place
returns-clause-place c =
    slot-low c.args.self.now.parts.now c.args.b c.args.k c.slot_left.result c.slot_left.ensures c.has_few.ensures.slots
