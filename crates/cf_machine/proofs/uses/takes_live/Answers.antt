-- Answers to the goals of `uses::takes_live`.
use Rattle.std.proofs.Common.{◌≡◌, Bool, true, [], ◌∷◌, sym, subst}
use Rattle.std.specs.Prelude.{◌↔◌}
use Rattle.cf_model.specs.Journals.{MayUseAll, takes}
use Rattle.cf_state.specs.States.{state_of}
use Rattle.cf_machine.proofs.Using.{take-decides}
use Rattle.cf_machine.proofs.uses.takes_live.Goals as goal

pub returns : goal.returns
returns c = λ owners.
    let st = state_of c.args.state.now in
    subst (λ (b : Bool). (b ≡ true) ↔ MayUseAll st c.args.thread owners (takes c.args.object ∷ [])) (sym c.both.ensures)
    (take-decides st c.args.thread c.args.object owners c.is_live.result c.holds_own.result c.is_live.ensures c.holds_own.ensures)
