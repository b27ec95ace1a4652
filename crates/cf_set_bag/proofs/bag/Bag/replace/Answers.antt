-- Answers to the goals of `bag::Bag::replace`.
use Rattle.cf_set_bag.proofs.Counting.{counted_rekeyed}
use Rattle.cf_set_bag.proofs.bag.Bag.replace.Goals as goal

pub invariant_of-self : goal.invariant_of-self
invariant_of-self g c = rw c.replace_member.ensures.rows (counted_rekeyed _ c.self.inside.rows.rows c.args.e
    c.self.invariant)
