-- Answers to the goals of `store::Store::invalidate`.
use Rattle.cf_store.proofs.Keeping.{valid_kept, kept_invalid}
use Rattle.cf_store.proofs.store.Store.invalidate.Goals as goal

pub invalidate-requires : goal.invalidate-requires
invalidate-requires c = valid_kept _ _ _ _ c.self.invariant (rw (← c.self.view_is) at c.requires)

pub invariant_of-self : goal.invariant_of-self
invariant_of-self c =
    kept_invalid _ _ _ _ _ _ _ c.self.invariant (rw c.deref.ensures.value at c.source_among-item.ensures.item) c.change_item.ensures.bodies
    (c.change_item.ensures.ready _ c.self.invariant.ready) c.invalidate.ensures.sources
