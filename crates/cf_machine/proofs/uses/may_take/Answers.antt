-- Answers to the goals of `uses::may_take`.
use Rattle.std.proofs.Common.{refl, sym, ap}
use Rattle.cf_model.specs.Journals.{takes, uses_if}
use Rattle.cf_state.specs.States.{state_of}
use Rattle.cf_machine.proofs.Using.{decide-same}
use Rattle.cf_machine.proofs.uses.may_take.Goals as goal

pub returns-in-Some : goal.returns-in-Some
returns-in-Some c = λ owners.
    decide-same (state_of c.args.state.now) c.args.thread c.takes_live.result _ _ owners owners (ap (uses_if takes) (sym c.in-Some.is)) refl (c.takes_live.ensures owners)
