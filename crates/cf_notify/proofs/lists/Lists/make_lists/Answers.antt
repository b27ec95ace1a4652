-- Answers to the goals of `lists::Lists::make_lists`.
use Rattle.cf_notify.proofs.Chains.{linked_none}
use Rattle.cf_notify.proofs.lists.Lists.make_lists.Goals as goal

pub invariant_of-self : goal.invariant_of-self
invariant_of-self c = linked_none c.self.inside.links.items c.self.inside.ends.items c.make_ends.new.ends.items
    c.self.invariant (rw (← c.self.view_is) at c.requires) c.make_ends.ensures.none
