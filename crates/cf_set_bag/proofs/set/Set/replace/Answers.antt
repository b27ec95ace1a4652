-- Answers to the goals of `set::Set::replace`.
use Rattle.cf_set_bag.proofs.Membership.{find-keys_of, members_replaced-keys_of}
use Rattle.cf_set_bag.proofs.set.Set.replace.Goals as goal

pub returns-clause-answer : goal.returns-clause-answer
returns-clause-answer g c = rw (← c.self.view_is, find-keys_of _ c.self.inside.rows.rows)
    c.replace_member.ensures.answer

pub returns-clause-members : goal.returns-clause-members
returns-clause-members g c = rw (
  ← c.self.view_is,
  members_replaced-keys_of _ c.self.inside.rows.rows,
  c.replace_member.ensures.rows,
)
