-- Answers to the goals of `uses::may_call_item`.
use Rattle.std.proofs.Common.{◌≡◌, Bool, true, [], ◌∷◌, Some, sym, subst}
use Rattle.std.specs.Prelude.{◌↔◌}
use Rattle.cf_model.specs.Journals.{MayUseAll, reaches, uses_if}
use Rattle.cf_state.specs.States.{state_of}
use Rattle.cf_machine.specs.Uses.{owners_by}
use Rattle.cf_machine.proofs.Using.{two-decide}
use Rattle.cf_machine.proofs.uses.may_call_item.Goals as goal

pub returns : goal.returns
returns c =
    let st = state_of c.args.state.now in
    let owners = owners_by (Some c.args.item) in
    subst (λ (b : Bool). (b ≡ true) ↔ MayUseAll st c.args.thread owners (reaches c.args.item ∷ uses_if reaches c.args.info.now)) (sym c.both.ensures)
    (two-decide st c.args.thread owners (reaches c.args.item ∷ []) (uses_if reaches c.args.info.now) c.reaches_live-first.result c.may_reach-second.result c.reaches_live-first.ensures c.may_reach-second.ensures)
