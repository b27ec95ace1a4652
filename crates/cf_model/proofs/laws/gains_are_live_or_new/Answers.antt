-- Answers to the goals of `laws::gains_are_live_or_new`.
use Rattle.cf_model.proofs.Held.{gains_fit}
use Rattle.cf_model.proofs.laws.gains_are_live_or_new.Goals as goal

pub returns : goal.returns
returns c = gains_fit
