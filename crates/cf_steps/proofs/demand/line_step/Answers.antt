-- Answers to the goals of `demand::line_step`.
use Rattle.std.proofs.Common.{◌≡◌, ℕ, List, Option, sym, ap, subst, ◌∙◌}
use Rattle.cf_syntax.specs.BlockLines.{says}
use Rattle.cf_syntax.specs.Mentions.{ownership_of}
use Rattle.cf_graph.specs.Holders.{parcel}
use Rattle.cf_next.specs.Next.{object_at, used_objects}
use Rattle.cf_next.specs.Steps.{IsLineStep, demand_of}
use Rattle.cf_next.specs.declared.step.Step.{Step}
use Rattle.cf_model.specs.Steps.{bindings_of, depth_of, pack_step, packed_holder, statement_step, step_of as step_in}
use Rattle.cf_state.proofs.Saying.{as-said}
use Rattle.cf_state.specs.States.{state_of}
use Rattle.cf_steps.specs.Doing.{step_of}
use Rattle.cf_steps.proofs.Asking.{bindings-are, depth-is}
use Rattle.cf_steps.proofs.demand.line_step.Goals as goal

pub returns-in-Packs : goal.returns-in-Packs
returns-in-Packs c = λ line.
    let st = state_of c.args.state.now in
    let t = c.args.thread in
    let fs = c.args.frames.now.stand.frames in
    let v = c.in-Packs.variable in
    let said = λ (x : Step). step_in c.args.script.now t st fs (demand_of x) in
    let depth : c.depth-depth.result ≡ depth_of fs = sym (depth-is fs c.depth-depth.result c.depth-depth.ensures) in
    let other = c.from.ensures ∙ c.other.view_is in
    as-said (step_of c.args.state.now.parts) c.pack.result _ _
    ((λ i. pack_step t st (packed_holder t (depth i) v) (object_at (bindings_of fs) v) (parcel (other i) c.in-Packs.place))
    ∙ ap said (sym c.in-Packs.is))
    c.pack.ensures

pub returns-in-Says : goal.returns-in-Says
returns-in-Says c = λ line.
    let st = state_of c.args.state.now in
    let s = c.args.script.now in
    let t = c.args.thread in
    let fs = c.args.frames.now.stand.frames in
    let x = c.in-Says.statement.now in
    let said = λ (y : Step). step_in s t st fs (demand_of y) in
    let depth : c.depth-depth.result ≡ depth_of fs = sym (depth-is fs c.depth-depth.result c.depth-depth.ensures) in
    let found = subst (IsLineStep s fs) c.in-Says.is c.requires in
    let used : c.objects.result ≡ used_objects (bindings_of fs) (says x) =
    c.objects.ensures ∙ found.1.objects ∙ sym (ap (λ bs. used_objects bs (says x)) (bindings-are fs)) in
    as-said (step_of c.args.state.now.parts) c.statement_step.result _ _
    ((λ i. statement_step s t (depth i) st x (used i) (ownership_of x)) ∙ ap said (sym c.in-Says.is))
    c.statement_step.ensures
