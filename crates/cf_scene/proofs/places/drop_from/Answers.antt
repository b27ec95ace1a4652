-- Answers to the goals of `places::drop_from`.
use Rattle.std.proofs.Common.{sym, ap, ◌∙◌}
use Rattle.cf_ids.specs.declared.answer.Answer.TheVariants as answers
use Rattle.cf_model.specs.Deals.{drop_deal, thing_deal}
use Rattle.cf_scene.proofs.Things.{item_told, no_item_told, none_found, some_found}
use Rattle.cf_scene.proofs.Doing.{nothing_done, drop_absent, dropped_done}
use Rattle.cf_scene.proofs.places.drop_from.Goals as goal

pub returns-then-is_none : goal.returns-then-is_none
returns-then-is_none c = λ s st mirrors loops by lt.
    let i = c.args.i in
    let none = no_item_told st.parts c.args.store.now.bodies mirrors i (none_found c.item.result _ c.item.ensures c.if-is_none.ensures) in
    nothing_done s st by _ answers.Skip _ _ _ mirrors loops
    (ap (thing_deal st.parts i (λ o x. drop_deal s st c.args.t c.args.place.now o)) none)
    c.answering.ensures.answer c.answering.ensures.came c.answering.ensures.went

pub returns-then-not-has : goal.returns-then-not-has
returns-then-not-has c = λ s st mirrors loops by lt.
    let i = c.args.i in
    let found = some_found c.item.result _ c.item.ensures c.if-is_none.ensures in
    let is = item_told st.parts c.args.store.now.bodies mirrors i found.0 found.1 in
    let absent = sym (c.has.ensures.known s st loops) ∙ c.if-not-has.true in
    let done = c.answering-then-not-has.ensures in
    nothing_done s st by _ answers.Absent _ _ _ mirrors loops
    (ap (thing_deal st.parts i (λ o x. drop_deal s st c.args.t c.args.place.now o)) is ∙ drop_absent s st c.args.t c.args.place.now i absent)
    done.answer done.came done.went

pub returns : goal.returns
returns c = λ s st mirrors loops by lt.
    let i = c.args.i in
    let found = some_found c.item.result _ c.item.ensures c.if-is_none.ensures in
    let is = item_told st.parts c.args.store.now.bodies mirrors i found.0 found.1 in
    let there = sym (c.has.ensures.known s st loops) ∙ c.if-not-has.false in
    dropped_done s st by c.args.t c.args.place.now i c.dropped-went.result c.args.store.now.bodies c.drop_from.new.self
    (ap (thing_deal st.parts i (λ o x. drop_deal s st c.args.t c.args.place.now o)) is) there
    (c.dropped-went.ensures s st loops lt) mirrors (c.drop_from.ensures s st loops by)
