-- Answers to the goals of `store::Store::drop_slot`.
use Rattle.std.proofs.Common.{◌<◌, length, arith}
use Rattle.cf_store.proofs.Setting.{slot_at, dropped_at}
use Rattle.cf_store.proofs.Keeping.{kept_stays}
use Rattle.cf_store.proofs.store.Store.drop_slot.Goals as goal

pub invariant_of-self : goal.invariant_of-self
invariant_of-self c =
    let within : c.o.inside.0 < length c.self.inside.bodies.items = omega (arith, c.len.ensures) in
    kept_stays c.self.inside.ready _ _ _ _ _ within c.index_mut.ensures.value c.drop_slot.ensures.content c.drop_slot.ensures.room c.self.invariant

pub returns-clause-slot : goal.returns-clause-slot
returns-clause-slot c =
    let within : c.o.inside.0 < length c.self.inside.bodies.items = omega (arith, c.len.ensures) in
    rw (← c.self.view_is, ← c.o.view_is) (slot_at _ _ _ _ within c.index_mut.ensures.value c.drop_slot.ensures.slot)

pub returns-clause-given_up : goal.returns-clause-given_up
returns-clause-given_up c =
    let within : c.o.inside.0 < length c.self.inside.bodies.items = omega (arith, c.len.ensures) in
    rw (← c.self.view_is, ← c.o.view_is) (dropped_at _ _ _ _ _ within c.index_mut.ensures.value c.drop_slot.ensures.held)
