-- The loop invariants of `slots::field_slot`.
use Rattle.std.proofs.Common.{◌≡◌, drop, slice_get}
use Rattle.cf_contents.specs.Contents.{present}
use Rattle.cf_body.proofs.slots.field_slot.Given as goal

-- the slot is the one that is left among the fields from here on
abbrev pub invariant-loop-field : goal.invariant-loop-field
invariant-loop-field l = slice_get (present l.fields) l.k ≡ slice_get (present (drop l.field-index l.fields)) l.left
