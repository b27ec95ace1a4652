-- Answers to the goals of `dealing::add_named`.
use Rattle.std.proofs.Common.{◌≤◌, length, sym, subst}
use Rattle.rl_base.specs.declared.places.Place.{Place}
use Rattle.rl_base.specs.Modes.{rank}
use Rattle.cf_model.specs.Deals.{Deal, add_deal, place_in, thread_in}
use Rattle.cf_scene.specs.Dealing.{IsDone, adding}
use Rattle.cf_scene.proofs.Naming.{a_place}
use Rattle.cf_scene.proofs.Settling.{thread_there}
use Rattle.cf_scene.proofs.dealing.add_named.Goals as goal

pub returns-in-Some-thread_of : goal.returns-in-Some-thread_of
returns-in-Some-thread_of c = λ s st mirrors loops by low.
    let i = c.in-Some.item in
    let u = thread_in c.args.acting.now.thread c.args.thread.now in
    let w = c.in-Some-thread_of.thread in
    let is = sym c.in-Some-thread_of.ensures in
    let done = λ (deal : Deal). IsDone s st by deal c.add.result c.args.store.now.bodies c.add.new.loops in
    a_place done st.parts c.args.acting.now.object u (λ v o x. add_deal s st v (place_in c.args.mode.now) o x) i w c.in-Some.is is
    (subst (λ (q : Place). done (adding s st w q i)) c.place_of.ensures
    (c.add.ensures s st mirrors loops by (thread_there s st.parts st.edges c.args.loops.now u w loops is c.requires.named)
    (subst (λ (q : Place). rank q ≤ length s.modes) (sym c.place_of.ensures) low)))
