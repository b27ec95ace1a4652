-- Answers to the goals of `ground::Ground::enter_sleep`.
use Rattle.std.proofs.Common.{◌≡◌, ◌<◌, None, refl, sym, arith}
use Rattle.cf_model.specs.Journals.{After}
use Rattle.cf_model.specs.Things.{mode_date}
use Rattle.cf_world.proofs.Counting.{entered_ground, entered_view}
use Rattle.cf_world.proofs.Entered.{sleep_tells}
use Rattle.cf_world.proofs.Sourced.{no_date, sourced, staged_sources}
use Rattle.cf_world.proofs.Telling.{flags_count}
use Rattle.cf_world.proofs.ground.Ground.enter_sleep.Goals as goal

pub sleep-answer-requires : goal.sleep-answer-requires
sleep-answer-requires c =
    let within : c.args.t < c.self.inside.script.thread_count = rw (← c.self.view_is) at c.requires.acts.thread in
    omega (arith, within, flags_count c.self.inside c.self.invariant)

pub invariant_of-self : goal.invariant_of-self
invariant_of-self c =
    let g = c.self.inside in
    let st = After g.script g.journal.items in
    let follows = c.self.invariant.follows in
    let r = rw (← c.self.view_is) at c.requires.sleeps in
    let date : mode_date st c.args.t r.run.mode ≡ None = no_date st c.args.t r.run.mode (sourced g.script g.journal.items (staged_sources g.script c.self.invariant.script.stage)) in
    entered_ground g c.args.t c.args.action c.self.invariant (rw (← c.self.view_is) at c.requires.acts) _ _ _
    (sleep_tells g c.args.t c.self.invariant c.args.deadline r c.sleep-answer.result _
    (c.sleep-answer.ensures st r.run (sym follows.flags_are) (sym follows.time_is) r.deadline_is date)) _ refl refl c.write.ensures.items

pub returns-clause-entered : goal.returns-clause-entered
returns-clause-entered c =
    let g = c.self.inside in
    let st = After g.script g.journal.items in
    let follows = c.self.invariant.follows in
    let r = rw (← c.self.view_is) at c.requires.sleeps in
    let date : mode_date st c.args.t r.run.mode ≡ None = no_date st c.args.t r.run.mode (sourced g.script g.journal.items (staged_sources g.script c.self.invariant.script.stage)) in
    rw (← c.self.view_is) (entered_view g c.args.t c.args.action c.self.invariant (rw (← c.self.view_is) at c.requires.acts) _ _
    (record { script = g.script; journal = c.write.new.journal; store = g.store; parcels = g.parcels; flags = c.sleep-answer.new.flags; time = g.time; loops = g.loops })
    (sleep_tells g c.args.t c.self.invariant c.args.deadline r c.sleep-answer.result _
    (c.sleep-answer.ensures st r.run (sym follows.flags_are) (sym follows.time_is) r.deadline_is date)) _ refl refl c.write.ensures.items c.write.ensures.room)

pub returns-clause-gained : goal.returns-clause-gained
returns-clause-gained c =
    let g = c.self.inside in
    let st = After g.script g.journal.items in
    let follows = c.self.invariant.follows in
    let r = rw (← c.self.view_is) at c.requires.sleeps in
    let date : mode_date st c.args.t r.run.mode ≡ None = no_date st c.args.t r.run.mode (sourced g.script g.journal.items (staged_sources g.script c.self.invariant.script.stage)) in
    rw (← c.self.view_is) (sleep_tells g c.args.t c.self.invariant c.args.deadline r c.sleep-answer.result _
    (c.sleep-answer.ensures st r.run (sym follows.flags_are) (sym follows.time_is) r.deadline_is date)).gains
