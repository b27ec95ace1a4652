-- Answers to the goals of `stack::Stack::new`.
use Rattle.cf_next.proofs.FrameLaws.{new-stack}
use Rattle.cf_next.proofs.stack.Stack.new.Goals as goal

pub invariant_of-result : goal.invariant_of-result
invariant_of-result c = new-stack c.args.t c.new.result.items c.new-2.result.rows c.new-3.result.rows c.no_cells.result (cc) (cc) (cc) (cc) c.no_cells.ensures
