-- Answers to the goals of `links::Links::reserve`.
use Rattle.cf_links.proofs.links.Links.reserve.Goals as goal

pub invariant_of-self : goal.invariant_of-self
invariant_of-self g c = rw c.reserve_nodes.ensures.kept c.self.invariant

pub invariant_of-self-2 : goal.invariant_of-self-2
invariant_of-self-2 g c = rw (c.reserve_lists.ensures.items, c.reserve_nodes.ensures.kept) c.self.invariant
