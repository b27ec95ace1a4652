-- Answers to the goals of `rows::Rows::push`.
use Rattle.std.proofs.Common.{reverse}
use Rattle.cf_next.proofs.RowLaws.{rows-push, nested-push}
use Rattle.cf_next.proofs.rows.Rows.push.Goals as goal

pub invariant_of-self : goal.invariant_of-self
invariant_of-self g c =
    let r = c.self.inside in
    rw c.push_reserved.ensures.items (nested-push r.start (reverse r.below.items) r.cells.items c.args.cell c.self.invariant)

pub returns-clause-rows : goal.returns-clause-rows
returns-clause-rows g c =
    let r = c.self.inside in
    rw (c.push_reserved.ensures.items, ← c.self.view_is) (rows-push r.start (reverse r.below.items) r.cells.items c.args.cell c.self.invariant.0)
