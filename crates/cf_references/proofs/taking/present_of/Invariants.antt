-- The loop invariants of `taking::present_of`.
use Rattle.std.proofs.Common.{◌≡◌, ◌++◌, length}
use Rattle.cf_model.specs.Own.{present_of}
use Rattle.cf_references.proofs.taking.present_of.Given as goal

abbrev pub invariant-loop-next : goal.invariant-loop-next
invariant-loop-next l = l.present.items ++ present_of l.rest l.left.items ≡ present_of l.fn.wanted l.fn.references

abbrev pub decreases-loop-next : goal.decreases-loop-next
decreases-loop-next l = length l.rest
