-- The loop invariants of `taking::first_from`.
use Rattle.std.proofs.Common.{◌≡◌, length}
use Rattle.cf_model.specs.Own.{first_from}
use Rattle.cf_references.proofs.taking.first_from.Given as goal

abbrev pub invariant-loop-reference : goal.invariant-loop-reference
invariant-loop-reference l = first_from l.thread l.object l.rest ≡ first_from l.thread l.object l.fn.references

abbrev pub decreases-loop-reference : goal.decreases-loop-reference
decreases-loop-reference l = length l.rest
