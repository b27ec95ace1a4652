-- Answers to the goals of `demand::phase_step`.
use Rattle.std.proofs.Common.{◌≡◌, ℕ, Some, sym, ap, ◌∙◌}
use Rattle.std.specs.Option.{option_map}
use Rattle.cf_ids.specs.declared.answer.Answer.{Answer}
use Rattle.cf_next.specs.Stands.{Turn}
use Rattle.cf_model.specs.Steps.{idle, phase_step, result_answer}
use Rattle.cf_state.proofs.Saying.{as-said}
use Rattle.cf_state.specs.States.{state_of}
use Rattle.cf_steps.specs.Doing.{step_of}
use Rattle.cf_steps.proofs.Turning.{collects}
use Rattle.cf_steps.proofs.demand.phase_step.Goals as goal

pub returns-in-Sleep : goal.returns-in-Sleep
returns-in-Sleep c =
    let st = state_of c.args.state.now in
    let run = c.requires.run in
    let some : Some c.in-Some.mode ≡ Some run.run.mode =
    sym c.in-Some.is ∙ c.mode.ensures ∙ ap (option_map (λ (r : Turn). r.mode)) run.innermost in
    let named : c.in-Some.mode ≡ run.run.mode = cc in
    let mode : c.from-mode.result ≡ run.run.mode = c.from-mode.ensures ∙ c.mode-2.view_is ∙ named in
    as-said (step_of c.args.state.now.parts) c.sleep_step.result _ _
    (sym (λ i. phase_step st c.args.thread (c.in-Sleep.is i) (run.kind i))) (c.sleep_step.ensures run.run run.innermost mode)

pub returns-in-Test : goal.returns-in-Test
returns-in-Test c =
    let st = state_of c.args.state.now in
    let run = c.requires.run in
    c.idle-in-Test.ensures st.parts
    ∙ ap (λ (a : Answer). idle st a) (c.result_answer.ensures ∙ ap result_answer (c.test.ensures run.run run.innermost))
    ∙ sym (λ i. phase_step st c.args.thread (c.in-Test.is i) (run.kind i))

pub returns-in_default-phase : goal.returns-in_default-phase
returns-in_default-phase c =
    let st = state_of c.args.state.now in
    let run = c.requires.run in
    let some : Some c.in-Some.mode ≡ Some run.run.mode =
    sym c.in-Some.is ∙ c.mode.ensures ∙ ap (option_map (λ (r : Turn). r.mode)) run.innermost in
    let named : c.in-Some.mode ≡ run.run.mode = cc in
    let mode : c.from-mode.result ≡ run.run.mode = c.from-mode.ensures ∙ c.mode-2.view_is ∙ named in
    as-said (step_of c.args.state.now.parts) c.collect_step.result _ _
    (collects st c.args.thread run.run c.args.phase c.in_default-phase.not-Sleep c.in_default-phase.not-Test
    ∙ sym (ap (phase_step st c.args.thread c.args.phase) run.kind))
    (c.collect_step.ensures run.run mode)
