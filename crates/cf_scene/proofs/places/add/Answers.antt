-- Answers to the goals of `places::add`.
use Rattle.std.proofs.Common.{◌≡◌, false, ◌&&◌, Some, sym, ap, ◌∙◌}
use Rattle.cf_ids.specs.declared.answer.Answer.TheVariants as answers
use Rattle.cf_ids.specs.declared.numbers.ItemKind.{ItemKind}
use Rattle.cf_contents.specs.Items.{kind_of}
use Rattle.cf_body.specs.Items.{seen_of}
use Rattle.cf_model.specs.Deals.{add_deal, is_elsewhere, stays_in_one, thing_deal}
use Rattle.cf_loops.specs.Following.{kind_in}
use Rattle.cf_scene.proofs.Things.{thing_of_view, item_told, no_item_told}
use Rattle.cf_scene.proofs.Doing.{nothing_done, may_share, stays_alone, add_invalid, add_present, add_enters, added_done}
use Rattle.cf_scene.proofs.places.add.Goals as goal
use Rattle.cf_scene.proofs.places.add.Goals.{else-stays_in_one-via-then-stays_in_one+else-is_elsewhere, else-stays_in_one-via-else-stays_in_one}

pub returns-in_default : goal.returns-in_default
returns-in_default c = λ s st mirrors loops by lt low.
    let i = c.args.i in
    let none = no_item_told st.parts c.args.store.now.bodies mirrors i c.in_default.ensures in
    nothing_done s st by _ answers.Skip _ _ _ mirrors loops
    (ap (thing_deal st.parts i (λ o x. add_deal s st c.args.t c.args.place.now o x)) none)
    c.answering.ensures.answer c.answering.ensures.came c.answering.ensures.went

pub returns-then-not-item : goal.returns-then-not-item
returns-then-not-item c = λ s st mirrors loops by lt low.
    let i = c.args.i in
    let x = thing_of_view (seen_of c.in-Some.item) in
    let is = item_told st.parts c.args.store.now.bodies mirrors i c.in-Some.item c.in-Some.ensures in
    let done = c.answering-then-not-item.ensures in
    nothing_done s st by _ answers.Invalid _ _ _ mirrors loops
    (ap (thing_deal st.parts i (λ o y. add_deal s st c.args.t c.args.place.now o y)) is ∙ add_invalid s st c.args.t c.args.place.now i x c.if-not-item.true)
    done.answer done.came done.went

pub returns-then-has : goal.returns-then-has
returns-then-has c = λ s st mirrors loops by lt low.
    let i = c.args.i in
    let x = thing_of_view (seen_of c.in-Some.item) in
    let is = item_told st.parts c.args.store.now.bodies mirrors i c.in-Some.item c.in-Some.ensures in
    let kind = c.stays_in_one.ensures ∙ ap stays_in_one c.kind-kind.ensures in
    let here : (stays_in_one (kind_of x.item) && is_elsewhere s c.args.t i st.edges) ≡ false = elim c.else-stays_in_one.branch [
      | else-stays_in_one-via-then-stays_in_one+else-is_elsewhere w ↦
          stays_alone (stays_in_one (kind_of x.item)) (is_elsewhere s c.args.t i st.edges) (sym (w.is_elsewhere.ensures s st loops) ∙ w.if-is_elsewhere.false)
      | else-stays_in_one-via-else-stays_in_one w ↦
          may_share (stays_in_one (kind_of x.item)) (is_elsewhere s c.args.t i st.edges) (sym kind ∙ w.if-stays_in_one.false)
    ] in
    let there = sym (c.has.ensures.known s st loops) ∙ c.if-has.true in
    let done = c.answering-then-has.ensures in
    nothing_done s st by _ answers.Present _ _ _ mirrors loops
    (ap (thing_deal st.parts i (λ o y. add_deal s st c.args.t c.args.place.now o y)) is ∙ add_present s st c.args.t c.args.place.now i x c.if-not-item.false here there)
    done.answer done.came done.went

pub returns : goal.returns
returns c = λ s st mirrors loops by lt low.
    let i = c.args.i in
    let x = thing_of_view (seen_of c.in-Some.item) in
    let is = item_told st.parts c.args.store.now.bodies mirrors i c.in-Some.item c.in-Some.ensures in
    let kind = c.stays_in_one.ensures ∙ ap stays_in_one c.kind-kind.ensures in
    let here : (stays_in_one (kind_of x.item) && is_elsewhere s c.args.t i st.edges) ≡ false = elim c.else-stays_in_one.branch [
      | else-stays_in_one-via-then-stays_in_one+else-is_elsewhere w ↦
          stays_alone (stays_in_one (kind_of x.item)) (is_elsewhere s c.args.t i st.edges) (sym (w.is_elsewhere.ensures s st loops) ∙ w.if-is_elsewhere.false)
      | else-stays_in_one-via-else-stays_in_one w ↦
          may_share (stays_in_one (kind_of x.item)) (is_elsewhere s c.args.t i st.edges) (sym kind ∙ w.if-stays_in_one.false)
    ] in
    let absent = sym (c.has.ensures.known s st loops) ∙ c.if-has.false in
    let is_kind = ap kind_in is ∙ ap (λ (k : ItemKind). Some k) (sym c.kind-kind.ensures) in
    added_done s st by c.args.t c.args.place.now i c.added-came.result c.args.store.now.bodies c.add.new.self
    (ap (thing_deal st.parts i (λ o y. add_deal s st c.args.t c.args.place.now o y)) is ∙ add_enters s st c.args.t c.args.place.now i x c.if-not-item.false here absent)
    (c.added-came.ensures s st loops lt) mirrors (c.add.ensures s st loops by low is_kind)
