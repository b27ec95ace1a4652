-- Answers to the goals of `left::is_told`.
use Rattle.std.proofs.Common.{◌∙◌}
use Rattle.cf_machine.proofs.Finishing.{told-by}
use Rattle.cf_machine.proofs.left.is_told.Goals as goal

pub returns : goal.returns
returns c = told-by _ _ _ _ _ _ _ _ c.cut-cut.ensures (c.as_slice-after.ensures.value ∙ c.requires) c.is_answer.ensures
