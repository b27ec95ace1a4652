-- The loop invariants of `near::near_words`.
use Rattle.std.proofs.Common.{◌-◌}
use Rattle.cf_script.specs.Views.{lent}
use Rattle.cf_script.proofs.NearLaws.{SoFar}
use Rattle.cf_script.proofs.near.near_words.Given as goal

abbrev pub invariant-loop-stop : goal.invariant-loop-stop
invariant-loop-stop l = SoFar l.bytes l.start (lent l.found.items)

abbrev pub decreases-loop-stop : goal.decreases-loop-stop
decreases-loop-stop l = 64 - l.start
