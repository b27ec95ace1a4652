-- Answers to the goals of `lines::lines_of_a_stall`.
use Rattle.std.proofs.Common.{refl}
use Rattle.cf_contents.proofs.OnLiterals.{description_on_literals}
use Rattle.cf_render.proofs.lines.lines_of_a_stall.Goals as goal

pub returns : goal.returns
unfolding description_on_literals
returns c = refl
