-- Answers to the goals of `lines::lines_of_two_equal_elements`.
use Rattle.std.proofs.Common.{refl}
use Rattle.cf_contents.proofs.OnLiterals.{description_on_literals}
use Rattle.cf_render.proofs.lines.lines_of_two_equal_elements.Goals as goal

pub returns-clause-whole : goal.returns-clause-whole
unfolding description_on_literals
returns-clause-whole c = refl

pub returns-clause-limited : goal.returns-clause-limited
unfolding description_on_literals
returns-clause-limited c = refl
