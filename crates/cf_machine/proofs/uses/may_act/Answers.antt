-- Answers to the goals of `uses::may_act`.
use Rattle.std.proofs.Common.{[], sym, ap, ◌∙◌}
use Rattle.cf_model.specs.Journals.{action_uses, owners_of, takes, uses_if}
use Rattle.cf_state.specs.States.{state_of}
use Rattle.cf_machine.proofs.Using.{decide-same, only-site}
use Rattle.cf_machine.proofs.uses.may_act.Goals as goal

pub returns-in-Release : goal.returns-in-Release
returns-in-Release c =
    decide-same (state_of c.args.state.now) c.args.thread c.may_take.result _ _ _ _
    (ap (uses_if takes) c.first_of.ensures ∙ ap action_uses (sym c.in-Release.is)) (ap owners_of (sym c.in-Release.is)) (c.may_take.ensures [])

pub returns-in-Pack : goal.returns-in-Pack
returns-in-Pack c =
    decide-same (state_of c.args.state.now) c.args.thread c.may_take-in-Pack.result _ _ _ _
    (ap action_uses (sym c.in-Pack.is)) (ap owners_of (sym c.in-Pack.is)) (c.may_take-in-Pack.ensures [])

pub returns-in-Owed : goal.returns-in-Owed
returns-in-Owed c =
    decide-same (state_of c.args.state.now) c.args.thread c.takes_live.result _ _ _ _
    (ap action_uses (sym c.in-Owed.is)) (ap owners_of (sym c.in-Owed.is)) (c.takes_live.ensures [])

pub returns-in-Call : goal.returns-in-Call
returns-in-Call c =
    decide-same (state_of c.args.state.now) c.args.thread c.may_call.result _ _ _ _
    (ap action_uses (sym c.in-Call.is)) (ap owners_of (sym c.in-Call.is)) (c.may_call.ensures c.in-Call.handler)

pub returns-in_default : goal.returns-in_default
returns-in_default c =
    let only = only-site c.args.action.now c.in_default.not-Release c.in_default.not-Pack c.in_default.not-Claim c.in_default.not-Owed
    c.in_default.not-DropSlot c.in_default.not-Call c.in_default.not-Spend in
    decide-same (state_of c.args.state.now) c.args.thread c.may_say.result _ _ _ _ (sym only.0) (sym only.1) c.may_say.ensures
