-- The loop invariants of `output::write_entries`.
use Rattle.std.proofs.Common.{◌≡◌, false, take}
use Rattle.cf_io.specs.Bytes.{then_bytes}
use Rattle.cf_render.specs.Rendering.{entry_lines, text_of_lines}
use Rattle.cf_run.proofs.output.write_entries.Given as goal

abbrev pub invariant-loop-entry : goal.invariant-loop-entry
invariant-loop-entry g l = record {
  taken : g.K.Sink.taken l.sink ≡ then_bytes (g.K.Sink.taken l.initial.sink)
      (text_of_lines (entry_lines l.script false (take l.entry-index l.journal)));
  faults : g.K.Sink.faults l.sink ≡ g.K.Sink.faults l.initial.sink;
}
