-- Answers to the goals of `bag::MemberBag::set`.
use Rattle.cf_members.proofs.Treating.{replaced, rows_put}
use Rattle.cf_members.proofs.bag.MemberBag.set.Goals as goal

pub returns-clause-old : goal.returns-clause-old
returns-clause-old c = rw (← c.self.view_is, c.id_of.ensures) (replaced _ _ c.self.invariant _ _ _ c.set.ensures.answer)

pub returns-clause-rows : goal.returns-clause-rows
returns-clause-rows c = rw (← c.self.view_is) (rows_put _ _ c.self.invariant _ _ _ c.set.ensures.rows)
