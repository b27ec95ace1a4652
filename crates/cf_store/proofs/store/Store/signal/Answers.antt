-- Answers to the goals of `store::Store::signal`.
use Rattle.std.proofs.Common.{true}
use Rattle.cf_store.proofs.Keeping.{valid_kept, kept_signal}
use Rattle.cf_store.proofs.store.Store.signal.Goals as goal

pub signal-requires : goal.signal-requires
signal-requires c = valid_kept _ _ _ _ c.self.invariant (rw (← c.self.view_is) at c.requires)

pub invariant_of-self : goal.invariant_of-self
invariant_of-self c =
    kept_signal true _ _ _ _ _ _ _ _ c.self.invariant (rw c.deref.ensures.value at c.source_among-item.ensures.item) c.signalled.ensures c.change_item.ensures.bodies
    (c.change_item.ensures.ready _ c.self.invariant.ready) c.signal.ensures.sources
