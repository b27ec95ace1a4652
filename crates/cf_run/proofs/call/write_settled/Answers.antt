-- Answers to the goals of `call::write_settled`.
use Rattle.std.proofs.Common.{refl, arith}
use Rattle.std.proofs.lemmas.Result.{err_from_is_err_and}
use Rattle.cf_run.specs.Outcomes.{refusal_text}
use Rattle.cf_run.proofs.Writing.{cut_none}
use Rattle.cf_run.proofs.call.write_settled.Goals as goal

pub returns-in-Usage : goal.returns-in-Usage
returns-in-Usage g c = rw c.in-Usage.is c.write_text.ensures

pub returns-in-ReadFault : goal.returns-in-ReadFault
returns-in-ReadFault g c = rw c.in-ReadFault.is c.write_text-in-ReadFault.ensures

pub returns-in_err-line-in-Refused : goal.returns-in_err-line-in-Refused
returns-in_err-line-in-Refused g c =
    let p = err_from_is_err_and c.from_residual.result c.from_residual.ensures.1 in
    rw (p.1, p.2, c.in-Refused.is) (cut_none (refusal_text c.in-Refused.refusal) _ _ (omega arith) refl, refl)
