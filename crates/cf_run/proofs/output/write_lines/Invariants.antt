-- The loop invariants of `output::write_lines`.
use Rattle.std.proofs.Common.{◌≡◌, take}
use Rattle.cf_io.specs.Bytes.{then_bytes}
use Rattle.cf_render.specs.Rendering.{text_of_lines}
use Rattle.cf_render.specs.Ends.{lines_of}
use Rattle.cf_run.proofs.output.write_lines.Given as goal

abbrev pub invariant-loop-line : goal.invariant-loop-line
invariant-loop-line g l = record {
  taken : g.K.Sink.taken l.sink ≡ then_bytes (g.K.Sink.taken l.initial.sink)
      (text_of_lines (lines_of (take l.line-index l.lines)));
  faults : g.K.Sink.faults l.sink ≡ g.K.Sink.faults l.initial.sink;
}
