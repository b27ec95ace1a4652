-- Answers to the goals of `laws::a_line_has_the_words_that_are_found`.
use Rattle.cf_syntax.proofs.SpacedLaws.{words_spaced, spaced_words}
use Rattle.cf_syntax.proofs.laws.a_line_has_the_words_that_are_found.Goals as goal

pub returns-clause-found : goal.returns-clause-found
returns-clause-found c = λ line ws. words_spaced line ws

pub returns-clause-only : goal.returns-clause-only
returns-clause-only c = λ line ws. spaced_words line ws
