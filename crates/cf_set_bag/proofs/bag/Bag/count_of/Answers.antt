-- Answers to the goals of `bag::Bag::count_of`.
use Rattle.cf_set_bag.proofs.Membership.{lookup-entry}
use Rattle.cf_set_bag.proofs.bag.Bag.count_of.Goals as goal

pub returns-in-Some : goal.returns-in-Some
returns-in-Some g c = rw (← c.self.view_is, lookup-entry _ c.self.inside.rows.rows, ← c.in-Some.ensures)

pub returns-in-None : goal.returns-in-None
returns-in-None g c = rw (← c.self.view_is, lookup-entry _ c.self.inside.rows.rows, ← c.in-None.ensures)
