-- Answers to the goals of `centre::Centre::observe`.
use Rattle.std.proofs.Common.{arith, is_some}
use Rattle.cf_notify.proofs.Numbers.{length-filter-le}
use Rattle.cf_notify.proofs.centre.Centre.observe.Goals as goal

pub overflow_add-self : goal.overflow_add-self
overflow_add-self c = let few = rw (← c.self.view_is) at c.requires.few in omega
    (arith, few, c.self.invariant.counted, length-filter-le is_some c.self.inside.made.items)
