-- The loop invariants of `finding::retained_after`.
use Rattle.std.proofs.Common.{◌≡◌, drop}
use Rattle.std.specs.Prelude.{slice_get}
use Rattle.cf_next.specs.Ahead.{lines_ahead}
use Rattle.cf_next.specs.Finding.{top_lines}
use Rattle.cf_next.specs.Next.{top_frame}
use Rattle.cf_next.proofs.finding.retained_after.Given as goal

-- the lines that are passed retain an object each
abbrev pub invariant-loop-left : goal.invariant-loop-left
invariant-loop-left l =
    let f = top_frame l.fn.stack.frames in
    slice_get (lines_ahead f.bindings (drop l.number (top_lines l.fn.script f))) l.left ≡ slice_get (lines_ahead f.bindings (drop f.number (top_lines l.fn.script f))) l.fn.k

abbrev pub decreases-loop-left : goal.decreases-loop-left
decreases-loop-left l = l.left
