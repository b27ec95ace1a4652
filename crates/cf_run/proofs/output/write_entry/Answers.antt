-- Answers to the goals of `output::write_entry`.
use Rattle.std.proofs.Common.{refl}
use Rattle.std.proofs.lemmas.Result.{err_from_is_err_and}
use Rattle.cf_run.proofs.Writing.{part_none, text_at}
use Rattle.cf_run.proofs.output.write_entry.Goals as goal

pub returns-in_err-put_line : goal.returns-in_err-put_line
returns-in_err-put_line g c =
    let p = err_from_is_err_and c.from_residual.result c.from_residual.ensures.1 in
    rw (p.1, p.2) (part_none (text_at c.args.script.now c.args.entry.now) (g.K.Sink.taken c.args.sink.now), refl)
