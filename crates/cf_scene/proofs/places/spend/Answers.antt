-- Answers to the goals of `places::spend`.
use Rattle.std.proofs.Common.{ap, subst}
use Rattle.cf_ids.specs.declared.answer.Answer.TheVariants as answers
use Rattle.cf_body.specs.Items.{seen_of}
use Rattle.cf_model.specs.Deals.{Deal}
use Rattle.cf_model.specs.Steps.{spend_if}
use Rattle.cf_scene.specs.Dealing.{IsDone}
use Rattle.cf_scene.proofs.Things.{thing_of_view, item_told, no_item_told}
use Rattle.cf_scene.proofs.Doing.{nothing_done, spend_valid, spend_invalid}
use Rattle.cf_scene.proofs.places.spend.Goals as goal
use Rattle.cf_scene.proofs.places.spend.Goals.{in_default-via-in-Some+else-item, in_default-via-in_default}

pub returns-in-Some : goal.returns-in-Some
returns-in-Some c = λ s st mirrors loops by.
    let i = c.args.i in
    let is = item_told st.parts c.args.store.now.bodies mirrors i c.in-Some.item c.in-Some.ensures in
    subst (λ (deal : Deal). IsDone s st by deal c.leave.result c.leave.new.store.bodies c.leave.new.loops)
    (spend_valid s st i (thing_of_view (seen_of c.in-Some.item)) is c.if-item.true) (c.leave.ensures s st mirrors loops by)

pub returns-in_default : goal.returns-in_default
returns-in_default c = λ s st mirrors loops by.
    let i = c.args.i in
    let bodies = c.args.store.now.bodies in
    let done = c.answering.ensures in
    nothing_done s st by _ answers.Ok _ _ _ mirrors loops
    (elim c.in_default.branch [
      | in_default-via-in-Some+else-item w ↦
          spend_invalid s st i (thing_of_view (seen_of w.in-Some.item)) (item_told st.parts bodies mirrors i w.in-Some.item w.in-Some.ensures) w.if-item.false
      | in_default-via-in_default w ↦ ap (spend_if s st i) (no_item_told st.parts bodies mirrors i w.in_default.ensures)
    ])
    done.answer done.came done.went
