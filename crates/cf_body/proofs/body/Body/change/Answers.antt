-- Answers to the goals of `body::Body::change`.
use Rattle.cf_body.proofs.Growing.{few_after}
use Rattle.cf_body.proofs.body.Body.change.Goals as goal

pub invariant_of-self : goal.invariant_of-self
invariant_of-self c =
    few_after _ _ _ c.change_kind.ensures.content (rw (← c.self.view_is) at c.requires.can) (rw (← c.self.view_is) at c.requires.room.members)
