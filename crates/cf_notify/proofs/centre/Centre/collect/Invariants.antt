-- The loop invariants of `centre::Centre::collect`.
use Rattle.std.proofs.Common.{length}
use Rattle.cf_notify.specs.Registered.{least, left_from}
use Rattle.cf_notify.proofs.Collecting.{IsCollecting}
use Rattle.cf_notify.proofs.centre.Centre.collect.Given as goal

abbrev pub invariant-loop-k : goal.invariant-loop-k
invariant-loop-k l = IsCollecting l.name l.object l.self.made l.initial.out l.out l.named l.any

abbrev pub decreases-loop-k : goal.decreases-loop-k
decreases-loop-k l = left_from (least l.named l.any) (length l.self.made)
