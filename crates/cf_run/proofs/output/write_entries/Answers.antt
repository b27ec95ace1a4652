-- Answers to the goals of `output::write_entries`.
use Rattle.std.proofs.Common.{◌<◌, ◌+◌, ◌∙◌, length, take, drop, arith}
use Rattle.std.proofs.lemmas.Result.{err_from_is_err_and}
use Rattle.cf_run.proofs.Writing.{part_fails, took_more, text_of, text_at, entries_split, entries_more}
use Rattle.cf_run.proofs.output.write_entries.Goals as goal

pub returns-in_err-write_entry : goal.returns-in_err-write_entry
returns-in_err-write_entry g c =
    let p = err_from_is_err_and c.from_residual.result c.from_residual.ensures.1 in
    let s = c.args.script.now in
    let journal = c.args.journal.now in
    let i = c.loop-entry.entry-index in
    let item = c.entry-item.result in
    let here : i < length journal = omega arith in
    rw (p.1, p.2)
    (part_fails c.in_err-write_entry.field-0.0 (text_of s (take i journal)) (text_at s item) (text_of s (drop (i + 1) journal)) (text_of s journal)
    (g.K.Sink.taken c.args.sink.now) (g.K.Sink.taken c.loop-entry.sink) (g.K.Sink.taken c.write_entry.new.sink) (g.K.Sink.faults c.args.sink.now) (g.K.Sink.faults c.loop-entry.sink) (g.K.Sink.faults c.write_entry.new.sink)
    (entries_split s journal i item here c.entry-item.is) c.loop-entry.invariant.taken c.loop-entry.invariant.faults c.in_err-write_entry.ensures)

pub loop-entry-preserved : goal.loop-entry-preserved
loop-entry-preserved g c =
    let s = c.args.script.now in
    let journal = c.args.journal.now in
    let i = c.loop-entry.entry-index in
    let item = c.entry-item.result in
    let here : i < length journal = omega arith in
    record {
      taken = took_more (text_of s (take i journal)) (text_at s item) (text_of s (take (i + 1) journal)) (g.K.Sink.taken c.args.sink.now) (g.K.Sink.taken c.loop-entry.sink) (g.K.Sink.taken c.write_entry.new.sink) (entries_more s journal i item here c.entry-item.is) c.loop-entry.invariant.taken c.in_ok-write_entry.ensures.0;
      faults = c.in_ok-write_entry.ensures.1 ∙ c.loop-entry.invariant.faults;
    }
