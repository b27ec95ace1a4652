-- Answers to the goals of `lines::lines_of_a_slow_clock`.
use Rattle.std.proofs.Common.{refl}
use Rattle.cf_contents.proofs.OnLiterals.{description_on_literals}
use Rattle.cf_render.proofs.lines.lines_of_a_slow_clock.Goals as goal

pub returns-clause-seen : goal.returns-clause-seen
unfolding description_on_literals
returns-clause-seen c = refl

pub returns-clause-full : goal.returns-clause-full
unfolding description_on_literals
returns-clause-full c = refl
