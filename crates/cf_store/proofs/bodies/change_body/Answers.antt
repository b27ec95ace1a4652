-- Answers to the goals of `bodies::change_body`.
use Rattle.cf_store.proofs.Setting.{done_at, took_at, gave_at, none_done, none_taken, none_given}
use Rattle.cf_store.proofs.bodies.change_body.Goals as goal

pub returns-in-Some-clause-bodies : goal.returns-in-Some-clause-bodies
returns-in-Some-clause-bodies c =
    done_at _ _ _ _ _ _ (rw c.deref.ensures.value at c.in-Some.ensures.made) c.index_mut.ensures.value c.change.ensures.held

pub returns-in-Some-clause-took : goal.returns-in-Some-clause-took
returns-in-Some-clause-took c =
    took_at _ _ _ _ _ _ (rw c.deref.ensures.value at c.in-Some.ensures.made) c.index_mut.ensures.value c.change.ensures.took

pub returns-in-Some-clause-gave : goal.returns-in-Some-clause-gave
returns-in-Some-clause-gave c =
    gave_at _ _ _ _ _ _ (rw c.deref.ensures.value at c.in-Some.ensures.made) c.index_mut.ensures.value c.change.ensures.gave

pub returns-in-None-clause-bodies : goal.returns-in-None-clause-bodies
returns-in-None-clause-bodies c = none_done _ _ _ (rw c.deref.ensures.value at c.in-None.ensures.none)

pub returns-in-None-clause-took : goal.returns-in-None-clause-took
returns-in-None-clause-took c = rw c.nothing.ensures (none_taken c.args.change c.args.bodies.now.items c.args.object (rw c.deref.ensures.value at c.in-None.ensures.none))

pub returns-in-None-clause-gave : goal.returns-in-None-clause-gave
returns-in-None-clause-gave c = rw c.nothing.ensures (none_given c.args.change c.args.bodies.now.items c.args.object (rw c.deref.ensures.value at c.in-None.ensures.none))
