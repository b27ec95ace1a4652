-- Answers to the goals of `set::Set::set`.
use Rattle.cf_set_bag.proofs.Membership.{find-keys_of, is_some-lookup, members_set-keys_of}
use Rattle.cf_set_bag.proofs.set.Set.set.Goals as goal

pub returns-clause-answer : goal.returns-clause-answer
returns-clause-answer g c = rw (← c.self.view_is, find-keys_of _ c.self.inside.rows.rows) c.set_member.ensures.answer

pub returns-clause-members : goal.returns-clause-members
returns-clause-members g c = rw (← c.self.view_is) (members_set-keys_of _ c.self.inside.rows.rows _ _ _
    c.set_member.ensures.rows)

pub returns-clause-room : goal.returns-clause-room
returns-clause-room g c = rw (
  ← c.self.view_is,
  find-keys_of _ c.self.inside.rows.rows,
  ← is_some-lookup _
      c.self.inside.rows.rows,
) c.set_member.ensures.room
