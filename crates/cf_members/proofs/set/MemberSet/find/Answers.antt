-- Answers to the goals of `set::MemberSet::find`.
use Rattle.std.proofs.Common.{Some, None}
use Rattle.cf_members.proofs.Treating.{found_row}
use Rattle.cf_members.proofs.set.MemberSet.find.Goals as goal

pub returns-in-Some : goal.returns-in-Some
returns-in-Some c = rw (← c.self.view_is) (found_row _ _ c.self.invariant _ _ (Some c.in-Some.member.now) c.in-Some.ensures)

pub returns-in-None : goal.returns-in-None
returns-in-None c = rw (← c.self.view_is) (found_row _ _ c.self.invariant _ _ None c.in-None.ensures)
