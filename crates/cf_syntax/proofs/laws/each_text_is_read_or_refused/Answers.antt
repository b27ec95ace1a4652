-- Answers to the goals of `laws::each_text_is_read_or_refused`.
use Rattle.cf_syntax.proofs.RefusalLaws.{read_or_refused, not_both, one_refusal}
use Rattle.cf_syntax.proofs.laws.each_text_is_read_or_refused.Goals as goal

pub returns-clause-either : goal.returns-clause-either
returns-clause-either c = λ bs. read_or_refused bs

pub returns-clause-not_both : goal.returns-clause-not_both
returns-clause-not_both c = λ bs s r. not_both bs s r

pub returns-clause-one_refusal : goal.returns-clause-one_refusal
returns-clause-one_refusal c = λ bs r q. one_refusal bs r q
