-- Answers to the goals of `bag::MemberBag::add`.
use Rattle.cf_members.proofs.Treating.{takes_first, with_one_more}
use Rattle.cf_members.proofs.bag.MemberBag.add.Goals as goal

pub returns-clause-added : goal.returns-clause-added
returns-clause-added c = rw (← c.self.view_is, c.is_first.ensures) (takes_first _ _ c.self.invariant _ _ _ c.add.ensures.answer)

pub returns-clause-rows : goal.returns-clause-rows
returns-clause-rows c = rw (← c.self.view_is) (with_one_more _ _ c.self.invariant _ _ _ c.add.ensures.rows (rw (← c.self.view_is) at c.requires.few))
