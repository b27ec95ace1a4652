-- Answers to the goals of `laws::texts_are_of_the_stage`.
use Rattle.cf_syntax.proofs.ReadingLaws.{text_of_stage}
use Rattle.cf_syntax.proofs.laws.texts_are_of_the_stage.Goals as goal

pub returns : goal.returns
returns c = text_of_stage
