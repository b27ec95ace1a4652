-- Answers to the goals of `set::MemberSet::remove`.
use Rattle.cf_members.proofs.Treating.{found, without}
use Rattle.cf_members.proofs.set.MemberSet.remove.Goals as goal

pub returns-clause-out : goal.returns-clause-out
returns-clause-out c = rw (← c.self.view_is, c.id_of.ensures) (found _ _ c.self.invariant _ _ _ c.remove.ensures.answer)

pub returns-clause-members : goal.returns-clause-members
returns-clause-members c = rw (← c.self.view_is) (without _ _ c.self.invariant _ _ _ c.remove.ensures.members)
