-- Answers to the goals of `output::write_run`.
use Rattle.std.proofs.lemmas.Result.{err_from_is_err_and}
use Rattle.std.specs.Prelude.{false}
use Rattle.cf_render.specs.Rendering.{rendering}
use Rattle.cf_run.proofs.Writing.{front_fails, last_missing, last_writes, ends_some, ends_text, run_parts, text_of}
use Rattle.cf_run.proofs.output.write_run.Goals as goal

pub returns-in_err-write_entries : goal.returns-in_err-write_entries
returns-in_err-write_entries g c =
    let p = err_from_is_err_and c.from_residual.result c.from_residual.ensures.1 in
    let ran = c.args.ran.now in
    let s = ran.script in
    let journal = ran.journal.items in
    rw (p.1, p.2)
    (front_fails c.in_err-write_entries.field-0.0 (text_of s journal) (ends_text s journal ran.ending) (rendering s journal ran.ending false)
    (g.K.Sink.taken c.args.sink.now) (g.K.Sink.taken c.write_entries.new.sink) (g.K.Sink.faults c.args.sink.now) (g.K.Sink.faults c.write_entries.new.sink)
    (run_parts s journal ran.ending) (ends_some s journal ran.ending) (rw (c.script-script.ensures.value, c.as_slice-journal.ensures.value) at c.in_err-write_entries.ensures))

pub returns-in_err-lines : goal.returns-in_err-lines
returns-in_err-lines g c =
    let p = err_from_is_err_and c.from_residual-in_err-lines.result c.from_residual-in_err-lines.ensures.1 in
    let ran = c.args.ran.now in
    let s = ran.script in
    let journal = ran.journal.items in
    let first = rw (c.script-script.ensures.value, c.as_slice-journal.ensures.value) at c.in_ok-write_entries.ensures in
    rw (p.1, p.2) (
      last_missing (text_of s journal) (ends_text s journal ran.ending) (rendering s journal ran.ending false)
          (g.K.Sink.taken c.args.sink.now) (g.K.Sink.taken c.write_entries.new.sink) (run_parts s journal ran.ending) (ends_some s journal ran.ending) first.0,
      first.1,
    )

pub returns : goal.returns
returns g c =
    let ran = c.args.ran.now in
    let s = ran.script in
    let journal = ran.journal.items in
    let first = rw (c.script-script.ensures.value, c.as_slice-journal.ensures.value) at c.in_ok-write_entries.ensures in
    let lines = rw (c.script-script.ensures.value, c.as_slice-journal.ensures.value) at c.in_ok-lines.ensures in
    let last = rw (c.as_slice-2.ensures.value, lines) at c.write_lines.ensures in
    last_writes c.write_lines.result (text_of s journal) (ends_text s journal ran.ending) (rendering s journal ran.ending false)
    (g.K.Sink.taken c.args.sink.now) (g.K.Sink.taken c.write_entries.new.sink) (g.K.Sink.taken c.write_lines.new.sink) (g.K.Sink.faults c.args.sink.now) (g.K.Sink.faults c.write_entries.new.sink) (g.K.Sink.faults c.write_lines.new.sink)
    (run_parts s journal ran.ending) first.0 first.1 last
