-- Answers to the goals of `demand::step_by`.
use Rattle.std.proofs.Common.{◌≡◌, true, sym, ap, ◌∙◌}
use Rattle.std.specs.Option.{option_and_then}
use Rattle.cf_ids.specs.declared.answer.Answer.{Answer}
use Rattle.cf_next.specs.Facts.{Callout}
use Rattle.cf_next.specs.Stands.{Turn}
use Rattle.cf_next.specs.Steps.{demand_of}
use Rattle.cf_next.specs.declared.step.Step.{Step}
use Rattle.cf_next.specs.Views.{object_of}
use Rattle.cf_model.specs.Known.{facts_of}
use Rattle.cf_model.specs.Steps.{close_step, idle, result_answer, step_of as step_in}
use Rattle.cf_state.proofs.Saying.{as-said}
use Rattle.cf_state.specs.States.{state_of}
use Rattle.cf_steps.specs.Doing.{step_of}
use Rattle.cf_steps.specs.Running.{asks_run}
use Rattle.cf_steps.proofs.Asking.{in-run}
use Rattle.cf_steps.proofs.demand.step_by.Goals as goal

pub call_step-requires : goal.call_step-requires
call_step-requires c =
    λ h. in-run c.args.script.now (facts_of (state_of c.args.state.now)) c.args.thread c.args.frames.now.stand
    (demand_of c.args.step.now) c.requires.step.demand (ap (λ (x : Step). asks_run (demand_of x)) c.in-Calls.is ∙ h)

pub phase_step-requires-clause-run : goal.phase_step-requires-clause-run
phase_step-requires-clause-run c =
    in-run c.args.script.now (facts_of (state_of c.args.state.now)) c.args.thread c.args.frames.now.stand
    (demand_of c.args.step.now) c.requires.step.demand (ap (λ (x : Step). asks_run (demand_of x)) c.in-Enters.is)

pub returns-in-Ends : goal.returns-in-Ends
returns-in-Ends c =
    let st = state_of c.args.state.now in
    let said = λ (x : Step). step_in c.args.script.now c.args.thread st c.args.frames.now.stand.frames (demand_of x) in
    c.end_step.ensures st ∙ ap said (sym c.in-Ends.is)

pub returns-in-Drops : goal.returns-in-Drops
returns-in-Drops c =
    let st = state_of c.args.state.now in
    let said = λ (x : Step). step_in c.args.script.now c.args.thread st c.args.frames.now.stand.frames (demand_of x) in
    c.drop_step.ensures st ∙ ap said (sym c.in-Drops.is)

pub returns-in-Calls : goal.returns-in-Calls
returns-in-Calls c =
    let st = state_of c.args.state.now in
    let said = λ (x : Step). step_in c.args.script.now c.args.thread st c.args.frames.now.stand.frames (demand_of x) in
    let callout : Callout = record { handler = c.in-Calls.handler; info = object_of c.in-Calls.info } in
    as-said (step_of c.args.state.now.parts) c.call_step.result _ _ (ap said (sym c.in-Calls.is))
    (c.call_step.ensures callout (sym c.object.ensures))

pub returns-in-Closes : goal.returns-in-Closes
returns-in-Closes c =
    let st = state_of c.args.state.now in
    let fs = c.args.frames.now.stand.frames in
    let said = λ (x : Step). step_in c.args.script.now c.args.thread st fs (demand_of x) in
    let run = in-run c.args.script.now (facts_of st) c.args.thread c.args.frames.now.stand
    (demand_of c.args.step.now) c.requires.step.demand (ap (λ (x : Step). asks_run (demand_of x)) c.in-Closes.is) in
    c.idle.ensures st.parts
    ∙ ap (λ (a : Answer). idle st a) (c.result_answer.ensures
    ∙ ap result_answer (c.result.ensures ∙ ap (option_and_then (λ (r : Turn). r.result)) run.innermost))
    ∙ sym (ap (close_step st) run.kind) ∙ ap said (sym c.in-Closes.is)
