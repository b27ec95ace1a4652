-- Answers to the goals of `stack::Stack::push`.
use Rattle.cf_next.proofs.FrameLaws.{push-stack}
use Rattle.cf_next.proofs.stack.Stack.push.Goals as goal

pub invariant_of-self : goal.invariant_of-self
invariant_of-self c =
    let s = c.self.inside in
    rw (c.push_row.ensures.rows, c.push_row-2.ensures.rows) (push-stack (record { kind = c.args.kind; number = c.args.number }) s.top s.below.items c.push_reserved.new.self.items s.bindings.rows s.collected.rows s.table c.no_cells-table.result c.self.invariant c.push_reserved.ensures.items (cc) c.no_cells-table.ensures)
