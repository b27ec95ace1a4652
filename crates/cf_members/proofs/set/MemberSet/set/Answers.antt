-- Answers to the goals of `set::MemberSet::set`.
use Rattle.cf_members.proofs.Treating.{found, with_set}
use Rattle.cf_members.proofs.set.MemberSet.set.Goals as goal

pub returns-clause-old : goal.returns-clause-old
returns-clause-old c = rw (← c.self.view_is, c.id_of.ensures) (found _ _ c.self.invariant _ _ _ c.set.ensures.answer)

pub returns-clause-members : goal.returns-clause-members
returns-clause-members c = rw (← c.self.view_is) (with_set _ _ c.self.invariant _ _ _ c.set.ensures.members)
