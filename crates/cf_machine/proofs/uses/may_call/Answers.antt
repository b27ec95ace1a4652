-- Answers to the goals of `uses::may_call`.
use Rattle.std.proofs.Common.{ℕ, Option, [], sym, ap}
use Rattle.cf_next.specs.declared.action.Action.TheVariants as actions
use Rattle.cf_model.specs.Journals.{action_uses, owners_of}
use Rattle.cf_state.specs.States.{state_of}
use Rattle.cf_machine.proofs.Using.{decide-same}
use Rattle.cf_machine.proofs.uses.may_call.Goals as goal

pub returns-in-None : goal.returns-in-None
returns-in-None c = λ h.
    let call = λ (i : Option ℕ). actions.Call h i c.args.info.now in
    decide-same (state_of c.args.state.now) c.args.thread c.may_know.result _ _ [] _
    (ap (λ (i : Option ℕ). action_uses (call i)) (sym c.in-None.is)) (ap (λ (i : Option ℕ). owners_of (call i)) (sym c.in-None.is)) (c.may_know.ensures [])
