-- Answers to the goals of `lines::lines_of_two_releases`.
use Rattle.std.proofs.Common.{refl}
use Rattle.cf_syntax.proofs.OnLiterals.{script_on_literals}
use Rattle.cf_contents.proofs.OnLiterals.{description_on_literals}
use Rattle.cf_render.proofs.lines.lines_of_two_releases.Goals as goal

pub returns-clause-text : goal.returns-clause-text
unfolding script_on_literals
returns-clause-text c = refl

pub returns-clause-owned : goal.returns-clause-owned
returns-clause-owned c = refl

pub returns-clause-seen : goal.returns-clause-seen
unfolding description_on_literals
returns-clause-seen c = refl

pub returns-clause-full : goal.returns-clause-full
unfolding description_on_literals
returns-clause-full c = refl
