-- The loop invariants of `taking::own_references`.
use Rattle.std.proofs.Common.{◌≡◌, ◌++◌, length}
use Rattle.cf_model.specs.Own.{own_references}
use Rattle.cf_references.proofs.taking.own_references.Given as goal

abbrev pub invariant-loop-next : goal.invariant-loop-next
invariant-loop-next l = l.own.items ++ own_references l.thread l.rest l.left.items ≡ own_references l.thread l.fn.wanted l.fn.references

abbrev pub decreases-loop-next : goal.decreases-loop-next
decreases-loop-next l = length l.rest
