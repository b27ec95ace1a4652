-- The loop invariants of `objects::classes`.
use Rattle.std.proofs.Common.{◌≡◌, take}
use Rattle.cf_render.specs.Made.{classes_told}
use Rattle.cf_render.proofs.objects.classes.Given as goal

abbrev pub invariant-loop-entry : goal.invariant-loop-entry
invariant-loop-entry l = l.classes.items ≡ classes_told l.script (take l.entry-index l.journal)
