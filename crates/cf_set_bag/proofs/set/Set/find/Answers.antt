-- Answers to the goals of `set::Set::find`.
use Rattle.cf_set_bag.proofs.Membership.{find-keys_of, lookup_key-entry}
use Rattle.cf_set_bag.proofs.set.Set.find.Goals as goal

pub returns-in-Some : goal.returns-in-Some
returns-in-Some g c = rw (
  ← c.self.view_is,
  find-keys_of _ c.self.inside.rows.rows,
  lookup_key-entry _
      c.self.inside.rows.rows,
  ← c.in-Some.ensures,
)

pub returns-in-None : goal.returns-in-None
returns-in-None g c = rw (
  ← c.self.view_is,
  find-keys_of _ c.self.inside.rows.rows,
  lookup_key-entry _
      c.self.inside.rows.rows,
  ← c.in-None.ensures,
)
