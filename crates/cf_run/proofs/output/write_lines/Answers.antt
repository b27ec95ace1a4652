-- Answers to the goals of `output::write_lines`.
use Rattle.std.proofs.Common.{◌<◌, ◌+◌, ◌++◌, ◌∷◌, [], ◌∙◌, length, take, drop, arith}
use Rattle.std.proofs.lemmas.Result.{err_from_is_err_and}
use Rattle.cf_run.proofs.Writing.{cut_fails, took_more, text_in, lines_split, lines_more}
use Rattle.cf_run.proofs.output.write_lines.Goals as goal

pub returns-in_err-write_line : goal.returns-in_err-write_line
returns-in_err-write_line g c =
    let p = err_from_is_err_and c.from_residual.result c.from_residual.ensures.1 in
    let lines = c.args.lines.now in
    let i = c.loop-line.line-index in
    let item = c.line-item.result in
    let here : i < length lines = omega arith in
    rw (p.1, p.2)
    (cut_fails c.in_err-write_line.field-0.0 (text_in (take i lines)) (item.items ++ 10 ∷ []) (text_in (drop (i + 1) lines)) (text_in lines)
    (g.K.Sink.taken c.args.sink.now) (g.K.Sink.taken c.loop-line.sink) (g.K.Sink.taken c.write_line.new.sink) (g.K.Sink.faults c.args.sink.now) (g.K.Sink.faults c.loop-line.sink) (g.K.Sink.faults c.write_line.new.sink)
    (lines_split lines i item here c.line-item.is) c.loop-line.invariant.taken c.loop-line.invariant.faults (rw c.deref.ensures.value at c.in_err-write_line.ensures))

pub loop-line-preserved : goal.loop-line-preserved
loop-line-preserved g c =
    let lines = c.args.lines.now in
    let i = c.loop-line.line-index in
    let item = c.line-item.result in
    let here : i < length lines = omega arith in
    let wrote = rw c.deref.ensures.value at c.in_ok-write_line.ensures in
    record {
      taken = took_more (text_in (take i lines)) (item.items ++ 10 ∷ []) (text_in (take (i + 1) lines)) (g.K.Sink.taken c.args.sink.now) (g.K.Sink.taken c.loop-line.sink) (g.K.Sink.taken c.write_line.new.sink) (lines_more lines i item here c.line-item.is) c.loop-line.invariant.taken wrote.0;
      faults = wrote.1 ∙ c.loop-line.invariant.faults;
    }
