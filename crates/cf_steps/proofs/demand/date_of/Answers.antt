-- Answers to the goals of `demand::date_of`.
use Rattle.std.proofs.Common.{◌≡◌, Option, ℕ, ap}
use Rattle.cf_model.specs.Things.{mode_date}
use Rattle.cf_state.proofs.Saying.{as-said}
use Rattle.cf_state.specs.Known.{bare}
use Rattle.cf_steps.proofs.demand.date_of.Goals as goal

pub returns : goal.returns
returns c =
    as-said (λ (d : Option ℕ). d) c.mode_date.result _ _
    (ap (λ es. mode_date (bare c.args.state.now.parts es) c.args.thread c.args.mode) c.as_slice.ensures.value) c.mode_date.ensures
