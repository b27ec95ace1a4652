-- Answers to the goals of `output::write_text`.
use Rattle.cf_run.proofs.Writing.{cut_at}
use Rattle.cf_run.proofs.output.write_text.Goals as goal

pub returns-in-Err : goal.returns-in-Err
returns-in-Err g c = (cut_at c.args.text.now c.in-Err.field-0.out _ _ c.in-Err.ensures.short c.in-Err.ensures.err, c.in-Err.ensures.cause.risen)
