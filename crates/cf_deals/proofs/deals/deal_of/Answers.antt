-- Answers to the goals of `deals::deal_of`.
use Rattle.std.proofs.Common.{◌≡◌, sym, ap, ◌∙◌}
use Rattle.cf_syntax.specs.declared.statement.Statement.{Statement}
use Rattle.cf_model.specs.Deals.{add_deal, change_deal, change_unless_skipped, common_deal, deal_of as deal_in, drop_deal, invalidate_deal, place_in, run_deal, with_thing, with_used}
use Rattle.cf_state.proofs.Saying.{as-said}
use Rattle.cf_state.specs.Known.{bare}
use Rattle.cf_state.specs.States.{state_of}
use Rattle.cf_deals.specs.Deals.{deal_of}
use Rattle.cf_deals.proofs.Stating.{other-deal}
use Rattle.cf_deals.proofs.deals.deal_of.Goals as goal

pub returns-in-Add : goal.returns-in-Add
returns-in-Add c =
    let p = c.args.state.now.parts in
    let es = c.as_slice-edges.ensures.value in
    let said = λ (x : Statement). deal_in c.args.script.now c.args.thread (state_of c.args.state.now) x c.args.used.now in
    as-said (deal_of p) c.add.result _ _
    ((λ i. with_thing p (c.first_of-first.ensures i) (λ k x. with_used p (c.thread_in.ensures i) (λ w. add_deal c.args.script.now (bare p (es i)) w (place_in c.in-Add.mode) k x))) ∙ ap said (sym c.in-Add.is))
    c.add.ensures

pub returns-in-Drop : goal.returns-in-Drop
returns-in-Drop c =
    let p = c.args.state.now.parts in
    let es = c.as_slice-edges.ensures.value in
    let said = λ (x : Statement). deal_in c.args.script.now c.args.thread (state_of c.args.state.now) x c.args.used.now in
    as-said (deal_of p) c.drop_item.result _ _
    ((λ i. with_thing p (c.first_of-first.ensures i) (λ k x. with_used p (c.thread_in-in-Drop.ensures i) (λ w. drop_deal c.args.script.now (bare p (es i)) w (place_in c.in-Drop.mode) k))) ∙ ap said (sym c.in-Drop.is))
    c.drop_item.ensures

pub returns-in-Common : goal.returns-in-Common
returns-in-Common c =
    let p = c.args.state.now.parts in
    let es = c.as_slice-edges.ensures.value in
    let said = λ (x : Statement). deal_in c.args.script.now c.args.thread (state_of c.args.state.now) x c.args.used.now in
    as-said (deal_of p) c.common.result _ _
    ((λ i. with_used p (c.thread_in-in-Common.ensures i) (λ w. common_deal (bare p (es i)) w c.in-Common.mode)) ∙ ap said (sym c.in-Common.is))
    c.common.ensures

pub returns-in-Invalidate : goal.returns-in-Invalidate
returns-in-Invalidate c =
    let p = c.args.state.now.parts in
    let es = c.as_slice-edges.ensures.value in
    let said = λ (x : Statement). deal_in c.args.script.now c.args.thread (state_of c.args.state.now) x c.args.used.now in
    as-said (deal_of p) c.invalidate.result _ _
    ((λ i. with_thing p (c.first_of-first.ensures i) (invalidate_deal c.args.script.now (bare p (es i)))) ∙ ap said (sym c.in-Invalidate.is))
    c.invalidate.ensures

pub returns-in-Run : goal.returns-in-Run
returns-in-Run c =
    let p = c.args.state.now.parts in
    let es = c.as_slice-edges.ensures.value in
    let m = c.from.ensures ∙ c.mode.view_is in
    let said = λ (x : Statement). deal_in c.args.script.now c.args.thread (state_of c.args.state.now) x c.args.used.now in
    c.run_deal.ensures ∙ (λ i. run_deal (bare p (es i)) c.args.thread (m i)) ∙ ap said (sym c.in-Run.is)

pub returns-in_ok-deed-in_default : goal.returns-in_ok-deed-in_default
returns-in_ok-deed-in_default c =
    let p = c.args.state.now.parts in
    let deed = c.in_ok-deed-in_default.ensures in
    as-said (deal_of p) c.change_by.result _ _
    ((λ i. change_deal p (deed i).answer (c.first_of-first.ensures i) (change_unless_skipped (deed i).answer (deed i).change))
    ∙ other-deal c.args.script.now c.args.thread (state_of c.args.state.now) c.args.statement.now c.args.used.now
    c.in_default.not-Add c.in_default.not-Drop c.in_default.not-Common c.in_default.not-Signal c.in_default.not-Invalidate c.in_default.not-Wake c.in_default.not-Stop c.in_default.not-Run c.in_default.not-Observe c.in_default.not-Forget c.in_default.not-Post)
    c.change_by.ensures
