-- Answers to the goals of `sources::fire`.
use Rattle.std.proofs.Common.{sym}
use Rattle.cf_scene.proofs.Things.{signal_taken, no_signal_taken, not_valid, none_valid}
use Rattle.cf_scene.proofs.sources.fire.Goals as goal
use Rattle.cf_scene.proofs.sources.fire.Goals.{else-item-via-then-item+else-is_signalled, else-item-via-else-item}

pub returns-then-is_signalled : goal.returns-then-is_signalled
returns-then-is_signalled c = λ p mirrors valid.
    signal_taken p c.args.store.now.bodies c.args.i mirrors c.in-Some.item c.in-Some.ensures c.begin_callout.new.self.bodies c.begin_callout.ensures.bodies

pub returns-else-item : goal.returns-else-item
returns-else-item c = λ p mirrors valid. elim c.else-item.branch [
  | else-item-via-then-item+else-is_signalled w ↦ no_signal_taken p c.args.store.now.bodies c.args.i mirrors c.in-Some.item c.in-Some.ensures (sym w.if-is_signalled.ensures)
  | else-item-via-else-item w ↦ absurd (not_valid p c.args.store.now.bodies c.args.i mirrors c.in-Some.item c.in-Some.ensures w.if-item.false valid)
]

pub returns-in_default : goal.returns-in_default
returns-in_default c = λ p mirrors valid. absurd (none_valid p c.args.store.now.bodies c.args.i mirrors c.in_default.ensures valid)
