-- Answers to the goals of `demand::sleep_step`.
use Rattle.std.proofs.Common.{◌≡◌, ℕ, Option, false, sym, ap, ◌∙◌}
use Rattle.std.specs.Option.{option_and_then}
use Rattle.cf_next.specs.Stands.{Turn}
use Rattle.cf_model.specs.State.{flags_at}
use Rattle.cf_model.specs.Things.{mode_date}
use Rattle.cf_state.specs.States.{state_of}
use Rattle.cf_steps.specs.Running.{until_step}
use Rattle.cf_steps.proofs.Turning.{unwoken}
use Rattle.cf_steps.proofs.demand.sleep_step.Goals as goal

pub returns : goal.returns
returns c = λ r inner mode.
    let st = state_of c.args.state.now in
    let t = c.args.thread in
    let date : c.in_ok-date.date ≡ mode_date st t r.mode = c.in_ok-date.ensures ∙ ap (mode_date st t) mode in
    let deadline : c.deadline.result ≡ r.deadline = c.deadline.ensures ∙ ap (option_and_then (λ (r : Turn). r.deadline)) inner in
    let not_woken : (flags_at t st.parts.flags).is_woken ≡ false = sym c.is_woken.ensures ∙ c.if-is_woken.false in
    c.unwoken_step.ensures ∙ (λ i. until_step st t (deadline i) (date i)) ∙ sym (unwoken st t r not_woken)
