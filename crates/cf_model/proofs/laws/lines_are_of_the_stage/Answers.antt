-- Answers to the goals of `laws::lines_are_of_the_stage`.
use Rattle.cf_model.proofs.Staged.{line_of_stage}
use Rattle.cf_model.proofs.laws.lines_are_of_the_stage.Goals as goal

pub returns : goal.returns
returns c = line_of_stage
