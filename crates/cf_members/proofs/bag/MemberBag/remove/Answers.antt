-- Answers to the goals of `bag::MemberBag::remove`.
use Rattle.cf_members.proofs.Treating.{gone, rows_less}
use Rattle.cf_members.proofs.bag.MemberBag.remove.Goals as goal

pub returns-clause-out : goal.returns-clause-out
returns-clause-out c = rw (← c.self.view_is, c.member_gone.ensures) (gone _ _ c.self.invariant _ _ _ c.remove.ensures.answer)

pub returns-clause-rows : goal.returns-clause-rows
returns-clause-rows c = rw (← c.self.view_is) (rows_less _ _ c.self.invariant c.args.element.now c.self.inside.rows.rows _ c.remove.ensures.rows)
