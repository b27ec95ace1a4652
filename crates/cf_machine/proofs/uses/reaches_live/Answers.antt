-- Answers to the goals of `uses::reaches_live`.
use Rattle.std.proofs.Common.{◌≡◌, Bool, true, [], ◌∷◌, sym, subst}
use Rattle.std.specs.Prelude.{◌↔◌}
use Rattle.cf_model.specs.Journals.{MayUseAll, reaches}
use Rattle.cf_state.specs.States.{state_of}
use Rattle.cf_machine.specs.Uses.{owners_by}
use Rattle.cf_machine.proofs.Using.{reach-decides}
use Rattle.cf_machine.proofs.uses.reaches_live.Goals as goal

pub returns : goal.returns
returns c =
    let st = state_of c.args.state.now in
    let owners = owners_by c.args.body.now in
    subst (λ (b : Bool). (b ≡ true) ↔ MayUseAll st c.args.thread owners (reaches c.args.object ∷ [])) (sym c.both.ensures)
    (reach-decides st c.args.thread c.args.object owners c.is_live.result c.holds_at_hand-held.result c.is_live.ensures c.holds_at_hand-held.ensures)
