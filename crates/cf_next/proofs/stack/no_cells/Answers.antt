-- Answers to the goals of `stack::no_cells`.
use Rattle.cf_next.proofs.StackLaws.{cells_none}
use Rattle.cf_next.proofs.stack.no_cells.Goals as goal

pub returns : goal.returns
returns c = λ v. cells_none v
