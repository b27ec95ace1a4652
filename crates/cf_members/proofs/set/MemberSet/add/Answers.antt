-- Answers to the goals of `set::MemberSet::add`.
use Rattle.cf_members.proofs.Treating.{adds, err_members, with_added}
use Rattle.cf_members.proofs.set.MemberSet.add.Goals as goal

pub returns-clause-added : goal.returns-clause-added
returns-clause-added c = rw (← c.self.view_is, c.is_added.ensures) (adds _ _ c.self.invariant _ _ _ c.add.ensures.absent)

pub returns-clause-members : goal.returns-clause-members
returns-clause-members c =
    rw (← c.self.view_is)
    (with_added _ _ c.self.invariant _ _ _ _ c.add.ensures.absent c.add.ensures.members
    (err_members _ _ c.add.result c.add.ensures.err))
