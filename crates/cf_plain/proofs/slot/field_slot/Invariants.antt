-- The loop invariants of `slot::field_slot`.
use Rattle.std.proofs.Common.{◌≡◌, length, slice_get}
use Rattle.cf_contents.specs.Contents.{present}
use Rattle.cf_plain.proofs.slot.field_slot.Given as goal

-- what is left has the object
abbrev pub invariant-loop-field : goal.invariant-loop-field
invariant-loop-field l = slice_get (present l.rest) l.left ≡ slice_get (present l.fn.fields) l.fn.place

abbrev pub decreases-loop-field : goal.decreases-loop-field
decreases-loop-field l = length l.rest
