-- The loop invariants of `objects::what_is_left`.
use Rattle.std.proofs.Common.{◌≡◌, ◌≤◌, length, take}
use Rattle.cf_render.specs.Made.{finalised_in}
use Rattle.cf_render.proofs.Journals.{AreLeft}
use Rattle.cf_render.proofs.objects.what_is_left.Given as goal

abbrev pub invariant-loop-entry : goal.invariant-loop-entry
invariant-loop-entry l = record {
  left : AreLeft l.made (take l.entry-index l.journal) l.alive.items;
  count : l.finals ≡ length (finalised_in (take l.entry-index l.journal));
  few : l.finals ≤ l.entry-index;
}
