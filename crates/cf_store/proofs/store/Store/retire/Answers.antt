-- Answers to the goals of `store::Store::retire`.
use Rattle.std.proofs.Common.{ap}
use Rattle.cf_contents.specs.Stores.{Held, body_finalised}
use Rattle.cf_store.proofs.Setting.{set_at, live_within}
use Rattle.cf_store.proofs.Keeping.{kept_stays}
use Rattle.cf_store.proofs.store.Store.retire.Goals as goal

pub invariant_of-self : goal.invariant_of-self
invariant_of-self c =
    kept_stays c.self.inside.ready _ _ _ _ _ (live_within _ _ (rw (← c.self.view_is, ← c.o.view_is) at c.requires)) c.index_mut.ensures.value
    (ap (λ (h : Held). h.object.content) c.retire.ensures.held) c.retire.ensures.room c.self.invariant

pub returns-clause-bodies : goal.returns-clause-bodies
returns-clause-bodies c =
    rw (← c.self.view_is, ← c.o.view_is)
    (set_at body_finalised _ _ _ _ (live_within _ _ (rw (← c.self.view_is, ← c.o.view_is) at c.requires)) c.index_mut.ensures.value c.retire.ensures.held)
