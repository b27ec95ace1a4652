-- Answers to the goals of `bag::MemberBag::find`.
use Rattle.cf_members.proofs.Treating.{row_found, row_missing}
use Rattle.cf_members.proofs.bag.MemberBag.find.Goals as goal

pub returns-in-Some : goal.returns-in-Some
returns-in-Some c = rw (← c.self.view_is) (row_found _ _ c.self.invariant _ _ _ _ c.in-Some.ensures c.count_of.ensures)

pub returns-in-None : goal.returns-in-None
returns-in-None c = rw (← c.self.view_is) (row_missing _ _ c.self.invariant _ _ c.in-None.ensures)
