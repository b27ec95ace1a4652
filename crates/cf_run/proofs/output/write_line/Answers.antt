-- Answers to the goals of `output::write_line`.
use Rattle.std.proofs.Common.{◌++◌, ◌∷◌, [], refl}
use Rattle.std.proofs.lemmas.Result.{err_from_is_err_and}
use Rattle.cf_run.proofs.Writing.{cut_none, line_some}
use Rattle.cf_run.proofs.output.write_line.Goals as goal

pub returns-in_err-put_in_place : goal.returns-in_err-put_in_place
returns-in_err-put_in_place g c =
    let p = err_from_is_err_and c.from_residual.result c.from_residual.ensures.1 in
    rw (p.1, p.2) (cut_none (c.args.line.now ++ 10 ∷ []) _ _ (line_some c.args.line.now) refl, refl)
