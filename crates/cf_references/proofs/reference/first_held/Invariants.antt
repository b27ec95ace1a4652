-- The loop invariants of `reference::first_held`.
use Rattle.std.proofs.Common.{◌≡◌, length}
use Rattle.cf_model.specs.State.{first_held}
use Rattle.cf_references.specs.Views.{holder_of}
use Rattle.cf_references.proofs.reference.first_held.Given as goal

abbrev pub invariant-loop-reference : goal.invariant-loop-reference
invariant-loop-reference l = first_held (holder_of l.holder) l.rest ≡ first_held (holder_of l.holder) l.fn.references

abbrev pub decreases-loop-reference : goal.decreases-loop-reference
decreases-loop-reference l = length l.rest
