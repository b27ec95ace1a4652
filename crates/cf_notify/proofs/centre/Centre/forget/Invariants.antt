-- The loop invariants of `centre::Centre::forget`.
use Rattle.std.proofs.Common.{length}
use Rattle.cf_notify.specs.Registered.{left_from}
use Rattle.cf_notify.proofs.Forgetting.{IsForgetting}
use Rattle.cf_notify.proofs.centre.Centre.forget.Given as goal

abbrev pub invariant-loop-at : goal.invariant-loop-at
invariant-loop-at l = IsForgetting l.o l.name l.filter l.initial.self l.self l.gone l.at

abbrev pub decreases-loop-at : goal.decreases-loop-at
decreases-loop-at l = left_from l.at (length l.initial.self.made)
