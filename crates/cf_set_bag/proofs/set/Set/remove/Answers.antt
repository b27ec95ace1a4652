-- Answers to the goals of `set::Set::remove`.
use Rattle.cf_set_bag.proofs.Membership.{find-keys_of, lookup_key-entry, members_without-keys_of}
use Rattle.cf_set_bag.proofs.set.Set.remove.Goals as goal
use Rattle.cf_set_bag.proofs.set.Set.remove.Goals.{in-Some, in-None}

pub returns-clause-answer : goal.returns-clause-answer
returns-clause-answer g c =
    rw (
      ← c.self.view_is,
      find-keys_of _ c.self.inside.rows.rows,
      lookup_key-entry _ c.self.inside.rows.rows,
      ←
          c.remove_row.ensures.answer,
    )
    (elim c.match-remove_row.branch [
      | in-Some w ↦ rw (w.result-is, w.in-Some.is)
      | in-None w ↦ rw
          (w.result-is, w.in-None.is)
    ])

pub returns-clause-members : goal.returns-clause-members
returns-clause-members g c =
    rw (← c.self.view_is, members_without-keys_of _ c.self.inside.rows.rows, c.remove_row.ensures.rows)
