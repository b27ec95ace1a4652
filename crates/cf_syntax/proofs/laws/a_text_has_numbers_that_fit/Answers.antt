-- Answers to the goals of `laws::a_text_has_numbers_that_fit`.
use Rattle.cf_syntax.proofs.NumberedLaws.{text_numbered}
use Rattle.cf_syntax.proofs.laws.a_text_has_numbers_that_fit.Goals as goal

pub returns : goal.returns
returns c = λ bs s. text_numbered bs s
