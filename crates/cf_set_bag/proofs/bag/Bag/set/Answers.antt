-- Answers to the goals of `bag::Bag::set`.
use Rattle.cf_set_bag.proofs.Counting.{counted_set}
use Rattle.cf_set_bag.proofs.bag.Bag.set.Goals as goal

pub invariant_of-self : goal.invariant_of-self
invariant_of-self g c = rw c.set_member.ensures.rows (counted_set _ c.self.inside.rows.rows c.args.e _ c.self.invariant)
