-- The loop invariants of `whole::put_lines`.
use Rattle.std.proofs.Common.{◌≡◌, ◌++◌, take}
use Rattle.cf_render.specs.Ends.{lines_of}
use Rattle.cf_render.specs.Rendering.{text_of_lines}
use Rattle.cf_render.proofs.whole.put_lines.Given as goal

abbrev pub invariant-loop-line : goal.invariant-loop-line
invariant-loop-line l = l.text.items ≡ l.initial.text.items ++ text_of_lines (lines_of (take l.line-index l.lines))
