-- Answers to the goals of `text_rows::texts_with_faulty_blocks`.
use Rattle.std.proofs.Common.{refl}
use Rattle.cf_syntax.proofs.OnLiterals.{script_on_literals}
use Rattle.cf_syntax.proofs.text_rows.texts_with_faulty_blocks.Goals as goal

pub returns : goal.returns
unfolding script_on_literals
returns c = refl
