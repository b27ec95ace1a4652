-- Answers to the goals of `coming::next_going`.
use Rattle.std.proofs.Common.{◌≡◌, sym, ap, ◌∙◌}
use Rattle.cf_model.specs.State.{blank, stand_at}
use Rattle.cf_state.specs.Known.{facts_in}
use Rattle.cf_state.specs.States.{state_of}
use Rattle.cf_machine.proofs.Asking.{absent, carried}
use Rattle.cf_machine.proofs.coming.next_going.Goals as goal

pub returns-in-Some : goal.returns-in-Some
returns-in-Some c =
    let st = state_of c.args.state.now in
    let t = c.args.entry.now.thread in
    let f = c.in-Some.frames.now in
    let known = c.known-known.result in
    let who : f.thread ≡ t = c.in-Some.ensures.0 ∙ c.thread_of.ensures in
    let stand : f.stand ≡ stand_at t st.stands = c.in-Some.ensures.1 ∙ ap (λ k. stand_at k st.stands) c.thread_of.ensures in
    carried c.args.script.now st t c.args.entry.now.action (facts_in known.parts.now known.edges.now) f.thread f.stand c.asked.result
    c.requires c.known-known.ensures who stand c.asked.ensures

pub returns-in-None : goal.returns-in-None
returns-in-None c =
    let st = state_of c.args.state.now in
    let t = c.args.entry.now.thread in
    let none : stand_at t st.stands ≡ blank = ap (λ k. stand_at k st.stands) (sym c.thread_of.ensures) ∙ c.in-None.ensures in
    absent c.args.script.now st t c.args.entry.now.action c.requires none
