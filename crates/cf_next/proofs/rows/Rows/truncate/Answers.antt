-- Answers to the goals of `rows::Rows::truncate`.
use Rattle.std.proofs.Common.{reverse}
use Rattle.cf_next.proofs.RowLaws.{rows-truncate}
use Rattle.cf_next.proofs.rows.Rows.truncate.Goals as goal

pub returns-clause-rows : goal.returns-clause-rows
returns-clause-rows g c =
    let r = c.self.inside in
    rw (c.truncate.ensures.items, ← c.self.view_is) (rows-truncate r.start (reverse r.below.items) r.cells.items c.args.n)
