-- The loop invariants of `reference::copied`.
use Rattle.std.proofs.Common.{◌≡◌, take}
use Rattle.cf_references.proofs.reference.copied.Given as goal

abbrev pub invariant-loop-reference : goal.invariant-loop-reference
invariant-loop-reference l = l.whole.items ≡ take l.reference-index l.references
