-- Answers to the goals of `dealing::deal`.
use Rattle.std.proofs.Common.{ℕ, length, Option, refl, subst}
use Rattle.cf_syntax.specs.declared.statement.Statement.TheVariants as forms
use Rattle.cf_syntax.specs.Numbered.{NamesMode}
use Rattle.cf_model.specs.Deals.{add_deal, drop_deal, invalidate_deal, place_in, thread_in, with_thing}
use Rattle.cf_scene.specs.Acts.{TellsRun}
use Rattle.cf_scene.specs.Needs.{placing}
use Rattle.cf_scene.proofs.Settling.{place_within, said_common, said_done, said_flags, said_signal, stop_changes, wake_changes}
use Rattle.cf_scene.proofs.dealing.deal.Goals as goal

pub returns-in-Add : goal.returns-in-Add
returns-in-Add c = λ s st mirrors loops used first same modes tells.
    let t = c.args.acting.now.thread in
    let a = c.in-Add in
    let q = place_in a.mode in
    said_done s t st used c.args.flags.now.items same c.args.statement.now (forms.Add a.item a.thread a.mode)
    (λ (o : Option ℕ). placing st.parts o (thread_in t a.thread) (λ w i x. add_deal s st w q i x)) c.args.acting.now.object
    c.add_named.result c.args.store.now.bodies c.add_named.new.loops a.is tt refl first (λ e. e)
    (c.add_named.ensures s st mirrors loops t (place_within (length s.modes) a.mode (subst (NamesMode (length s.modes)) a.is modes)))

pub returns-in-Drop : goal.returns-in-Drop
returns-in-Drop c = λ s st mirrors loops used first same modes tells.
    let t = c.args.acting.now.thread in
    let d = c.in-Drop in
    let q = place_in d.mode in
    said_done s t st used c.args.flags.now.items same c.args.statement.now (forms.Drop d.item d.thread d.mode)
    (λ (o : Option ℕ). placing st.parts o (thread_in t d.thread) (λ w i x. drop_deal s st w q i)) c.args.acting.now.object
    c.drop_named.result c.args.store.now.bodies c.drop_named.new.loops d.is tt refl first (λ e. e) (c.drop_named.ensures s st mirrors loops t)

pub returns-in-Common : goal.returns-in-Common
returns-in-Common c = λ s st mirrors loops used first same modes tells.
    let t = c.args.acting.now.thread in
    let m = c.in-Common in
    let made = c.make_common_named.ensures in
    let done = c.answering.ensures in
    let mode = subst (NamesMode (length s.modes)) m.is modes in
    said_common s t st used c.args.flags.now.items same c.args.statement.now c.answering.result c.make_common_named.result
    done.answer done.came done.went c.args.store.now.bodies mirrors c.make_common_named.new.loops m.thread m.mode m.is
    (made.answer s st loops mode) (made.loops s st loops t mode)

pub returns-in-Signal : goal.returns-in-Signal
returns-in-Signal c = λ s st mirrors loops used first same modes tells.
    let g = c.in-Signal in
    let done = c.answering-in-Signal.ensures in
    said_signal s c.args.acting.now.thread st used c.args.flags.now.items same c.args.statement.now c.answering-in-Signal.result c.signal_named.result
    done.answer done.came done.went c.args.store.now.bodies mirrors c.args.loops.now loops g.source c.args.acting.now.object c.signal_named.new.store.bodies
    g.is first (c.signal_named.ensures.answer st.parts mirrors) (c.signal_named.ensures.mirrors st.parts mirrors)

pub returns-in-Invalidate : goal.returns-in-Invalidate
returns-in-Invalidate c = λ s st mirrors loops used first same modes tells.
    let t = c.args.acting.now.thread in
    let v = c.in-Invalidate in
    said_done s t st used c.args.flags.now.items same c.args.statement.now (forms.Invalidate v.item)
    (λ (o : Option ℕ). with_thing st.parts o (invalidate_deal s st)) c.args.acting.now.object
    c.invalidate_named.result c.invalidate_named.new.store.bodies c.invalidate_named.new.loops v.is tt refl first (λ e. e)
    (c.invalidate_named.ensures s st mirrors loops t)

pub returns-in-Wake : goal.returns-in-Wake
returns-in-Wake c = λ s st mirrors loops used first same modes tells.
    let t = c.args.acting.now.thread in
    let w = c.in-Wake in
    let done = c.answering-in-Wake.ensures in
    said_flags s t st used c.args.flags.now.items same c.args.statement.now c.answering-in-Wake.result c.wake_named.result
    done.answer done.came done.went c.args.store.now.bodies mirrors c.args.loops.now loops (forms.Wake w.thread) c.wake_named.new.flags.items w.is
    (wake_changes st.parts (thread_in t w.thread)) (c.wake_named.ensures.answer st.parts) (c.wake_named.ensures.flags st.parts same) (λ e. e)

pub returns-in-Stop : goal.returns-in-Stop
returns-in-Stop c = λ s st mirrors loops used first same modes tells.
    let t = c.args.acting.now.thread in
    let p = c.in-Stop in
    let done = c.answering-in-Stop.ensures in
    let told = subst (TellsRun st t c.args.acting.now.runs) p.is tells in
    said_flags s t st used c.args.flags.now.items same c.args.statement.now c.answering-in-Stop.result c.stop_named.result
    done.answer done.came done.went c.args.store.now.bodies mirrors c.args.loops.now loops (forms.Stop p.thread) c.stop_named.new.flags.items p.is
    (stop_changes st (thread_in t p.thread)) (c.stop_named.ensures.answer st told) (c.stop_named.ensures.flags st told same) (λ e. e)
