-- The steps of the phases of a run.
use Rattle.std.proofs.Common.{◌≡◌, ℕ, Bool, false, cond, refl, ap}
use Rattle.cf_ids.specs.declared.answer.Answer.TheVariants as answers
use Rattle.rl_turn.specs.declared.phases.Phase.{Phase}
use Rattle.rl_turn.specs.declared.phases.Phase.TheVariants as phases
use Rattle.cf_next.specs.Stands.{Turn}
use Rattle.cf_model.specs.State.{State, awake, flags_at}
use Rattle.cf_model.specs.Steps.{collect_step, sleep_step, sleeping, turn_step, unwoken_step}

pub unwoken : (st : State) (t : ℕ) (r : Turn) → (flags_at t st.parts.flags).is_woken ≡ false
    → sleep_step st t r ≡ unwoken_step st t r
unwoken st t r h = ap (λ (b : Bool). cond b (sleeping st t answers.Woken awake) (unwoken_step st t r)) h

pub collects : (st : State) (t : ℕ) (r : Turn) (p : Phase) → (p ≡ phases.Sleep → ⊥) → (p ≡ phases.Test → ⊥)
    → collect_step st t r p ≡ turn_step st t r p
collects st t r phases.Sleep sleep test = absurd (sleep refl)
collects st t r phases.Test sleep test = absurd (test refl)
collects st t r p sleep test = refl
