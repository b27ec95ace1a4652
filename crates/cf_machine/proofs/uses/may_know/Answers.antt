-- Answers to the goals of `uses::may_know`.
use Rattle.std.proofs.Common.{refl, sym, ap}
use Rattle.cf_model.specs.Journals.{knows, uses_if}
use Rattle.cf_state.specs.States.{state_of}
use Rattle.cf_machine.proofs.Using.{decide-same}
use Rattle.cf_machine.proofs.uses.may_know.Goals as goal

pub returns-in-Some : goal.returns-in-Some
returns-in-Some c = λ owners.
    decide-same (state_of c.args.state.now) c.args.thread c.knows_live.result _ _ owners owners (ap (uses_if knows) (sym c.in-Some.is)) refl (c.knows_live.ensures owners)
