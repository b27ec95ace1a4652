-- Answers to the goals of `ground::Ground::enter_item`.
use Rattle.std.proofs.Common.{◌∙◌, ℕ, refl, ap}
use Rattle.cf_model.specs.Journals.{After}
use Rattle.cf_scene.proofs.Mirroring.{count-mirrors}
use Rattle.cf_ids.specs.declared.answer.Answer.TheVariants as answers
use Rattle.cf_body.specs.Items.{seen_of}
use Rattle.cf_world.proofs.Counting.{entered_ground}
use Rattle.cf_world.proofs.Items.{item_enters}
use Rattle.cf_world.proofs.ground.Ground.enter_item.Goals as goal

pub invariant_of-self : goal.invariant_of-self
invariant_of-self c =
    let g = c.self.inside in
    let acts = rw (← c.self.view_is) at c.requires.acts in
    let making = rw (← c.self.view_is) at c.requires.makes in
    entered_ground g c.args.t c.args.action c.self.invariant acts _ _ _
    (item_enters g c.args.t c.args.action c.self.invariant acts (seen_of c.args.item) making _ c.make_item-object.ensures.bodies)
    (answers.Object c.make_item-object.result) (ap (λ (n : ℕ). answers.Object n) (c.make_item-object.ensures.number ∙ count-mirrors (After g.script g.journal.items).parts g.store.bodies c.self.invariant.follows.mirrors)) refl c.write.ensures.items
