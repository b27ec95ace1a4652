-- Answers to the goals of `bodies::make_room`.
use Rattle.cf_store.proofs.Setting.{few_at, held_at, ready_at}
use Rattle.cf_store.proofs.bodies.make_room.Goals as goal

pub returns-in-Some-clause-held : goal.returns-in-Some-clause-held
returns-in-Some-clause-held c =
    held_at _ _ _ _ (rw c.deref.ensures.value at c.in-Some.ensures.made).1 c.index_mut.ensures.value c.reserve.ensures.held

pub returns-in-Some-clause-ready : goal.returns-in-Some-clause-ready
returns-in-Some-clause-ready c =
    ready_at _ _ _ _ _ _ _ (rw c.deref.ensures.value at c.in-Some.ensures.made) c.index_mut.ensures.value c.requires.can c.reserve.ensures.held c.reserve.ensures.room

pub reserve-requires-clause-few : goal.reserve-requires-clause-few
reserve-requires-clause-few c =
    few_at _ _ _ _ _ (rw c.deref.ensures.value at c.in-Some.ensures.made) c.index_mut.ensures.value c.requires.few
