-- Answers to the goals of `uses::may_reach_all`.
use Rattle.std.proofs.Common.{◌≡◌, Bool, true, [], ◌++◌, get_or, sym, refl, subst}
use Rattle.std.specs.Prelude.{◌↔◌}
use Rattle.cf_model.specs.Journals.{MayUseAll, reaches, reaches_all, uses_if}
use Rattle.cf_state.specs.States.{state_of}
use Rattle.cf_machine.proofs.Using.{decide-same, reaches-three, two-decide}
use Rattle.cf_machine.proofs.uses.may_reach_all.Goals as goal

pub returns : goal.returns
returns c =
    let st = state_of c.args.state.now in
    let t = c.args.thread in
    let used = c.args.used.now in
    let others = subst (λ (b : Bool). (b ≡ true) ↔ MayUseAll st t [] (uses_if reaches (get_or used 1 c.index-used-1.result) ++ uses_if reaches (get_or used 2 c.index-used-2.result))) (sym c.both.ensures)
    (two-decide st t [] _ _ c.may_reach-second.result c.may_reach-third.result c.may_reach-second.ensures c.may_reach-third.ensures) in
    subst (λ (b : Bool). (b ≡ true) ↔ MayUseAll st t [] (reaches_all used)) (sym c.both-2.ensures)
    (decide-same st t _ _ (reaches_all used) [] [] (reaches-three used c.index-used-0.result c.index-used-1.result c.index-used-2.result c.type_inv.used) refl
    (two-decide st t [] _ _ c.may_reach-first.result c.both.result c.may_reach-first.ensures others))
