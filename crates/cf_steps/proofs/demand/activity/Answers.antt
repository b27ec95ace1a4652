-- Answers to the goals of `demand::activity`.
use Rattle.std.proofs.Common.{◌≡◌, Some, sym, ap, ◌∙◌}
use Rattle.rl_turn.specs.declared.phases.Phase.TheVariants.{Note}
use Rattle.cf_model.specs.Steps.{activity_of}
use Rattle.cf_steps.proofs.Asking.{noted}
use Rattle.cf_steps.proofs.demand.activity.Goals as goal

pub returns-in-Some-Note : goal.returns-in-Some-Note
returns-in-Some-Note c =
    let there : c.last.result ≡ Some (Note c.in-Some-Note.activity) = cc in
    sym (noted c.args.frames.now.stand.frames c.requires c.last.result c.last.ensures ∙ ap activity_of there)
