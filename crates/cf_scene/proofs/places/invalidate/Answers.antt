-- Answers to the goals of `places::invalidate`.
use Rattle.std.proofs.Common.{ap, ◌∙◌}
use Rattle.cf_ids.specs.declared.answer.Answer.TheVariants as answers
use Rattle.cf_model.specs.Deals.{invalidate_deal, thing_deal}
use Rattle.cf_body.specs.Items.{seen_of}
use Rattle.cf_scene.proofs.Things.{thing_of_view, item_told, no_item_told}
use Rattle.cf_scene.proofs.Doing.{nothing_done, still_invalid}
use Rattle.cf_scene.proofs.places.invalidate.Goals as goal

pub returns-in-Some-2 : goal.returns-in-Some-2
returns-in-Some-2 c = λ s st mirrors loops by.
    let i = c.args.i in
    let is = item_told st.parts c.args.store.now.bodies mirrors i c.in-Some.item c.in-Some.ensures in
    nothing_done s st by _ answers.Invalid _ _ _ mirrors loops
    (ap (thing_deal st.parts i (λ o x. invalidate_deal s st o x)) is ∙ still_invalid s st i (thing_of_view (seen_of c.in-Some.item)) c.if-item.false)
    c.answering.ensures.answer c.answering.ensures.came c.answering.ensures.went

pub returns-in-None : goal.returns-in-None
returns-in-None c = λ s st mirrors loops by.
    let i = c.args.i in
    let none = no_item_told st.parts c.args.store.now.bodies mirrors i c.in-None.ensures in
    nothing_done s st by _ answers.Skip _ _ _ mirrors loops (ap (thing_deal st.parts i (λ o x. invalidate_deal s st o x)) none)
    c.answering-in-None.ensures.answer c.answering-in-None.ensures.came c.answering-in-None.ensures.went
