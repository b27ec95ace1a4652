-- The loop invariants of `whole::put_entries`.
use Rattle.std.proofs.Common.{◌≡◌, ◌++◌, take}
use Rattle.cf_render.specs.Rendering.{entry_lines, text_of_lines}
use Rattle.cf_render.proofs.whole.put_entries.Given as goal

abbrev pub invariant-loop-entry : goal.invariant-loop-entry
invariant-loop-entry l = l.text.items ≡ l.initial.text.items ++ text_of_lines (entry_lines l.script l.full (take l.entry-index l.journal))
