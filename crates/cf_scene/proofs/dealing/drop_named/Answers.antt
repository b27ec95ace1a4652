-- Answers to the goals of `dealing::drop_named`.
use Rattle.std.proofs.Common.{sym, subst}
use Rattle.rl_base.specs.declared.places.Place.{Place}
use Rattle.cf_model.specs.Deals.{Deal, drop_deal, place_in, thread_in}
use Rattle.cf_scene.specs.Dealing.{IsDone, dropping}
use Rattle.cf_scene.proofs.Naming.{a_place}
use Rattle.cf_scene.proofs.Settling.{thread_there}
use Rattle.cf_scene.proofs.dealing.drop_named.Goals as goal

pub returns-in-Some-thread_of : goal.returns-in-Some-thread_of
returns-in-Some-thread_of c = λ s st mirrors loops by.
    let i = c.in-Some.item in
    let u = thread_in c.args.acting.now.thread c.args.thread.now in
    let w = c.in-Some-thread_of.thread in
    let is = sym c.in-Some-thread_of.ensures in
    let done = λ (deal : Deal). IsDone s st by deal c.drop_from.result c.args.store.now.bodies c.drop_from.new.loops in
    a_place done st.parts c.args.acting.now.object u (λ v o x. drop_deal s st v (place_in c.args.mode.now) o) i w c.in-Some.is is
    (subst (λ (q : Place). done (dropping s st w q i)) c.place_of.ensures
    (c.drop_from.ensures s st mirrors loops by (thread_there s st.parts st.edges c.args.loops.now u w loops is c.requires)))
