-- Answers to the goals of `store::Store::begin_callout`.
use Rattle.std.proofs.Common.{false}
use Rattle.cf_store.proofs.Keeping.{valid_kept, signalled_kept, kept_signal}
use Rattle.cf_store.proofs.store.Store.begin_callout.Goals as goal

pub begin_callout-requires-clause-valid : goal.begin_callout-requires-clause-valid
begin_callout-requires-clause-valid c = valid_kept _ _ _ _ c.self.invariant (rw (← c.self.view_is) at c.requires.valid)

pub begin_callout-requires-clause-signalled : goal.begin_callout-requires-clause-signalled
begin_callout-requires-clause-signalled c = signalled_kept _ _ _ _ c.self.invariant (rw (← c.self.view_is) at c.requires.signalled)

pub invariant_of-self : goal.invariant_of-self
invariant_of-self c =
    kept_signal false _ _ _ _ _ _ _ _ c.self.invariant (rw c.deref.ensures.value at c.source_among-item.ensures.item) c.signalled.ensures c.change_item.ensures.bodies
    (c.change_item.ensures.ready _ c.self.invariant.ready) c.begin_callout.ensures.sources
