-- Answers to the goals of `ground::Ground::enter_call`.
use Rattle.std.proofs.Common.{◌∙◌, refl, sym, ap}
use Rattle.cf_next.specs.Views.{callee_of}
use Rattle.cf_model.specs.Journals.{After}
use Rattle.cf_world.specs.Entering.{called_answer}
use Rattle.cf_world.proofs.Counting.{entered_ground}
use Rattle.cf_world.proofs.Entered.{call_tells, called_valid}
use Rattle.cf_world.proofs.ground.Ground.enter_call.Goals as goal

pub invariant_of-self : goal.invariant_of-self
invariant_of-self c =
    let g = c.self.inside in
    let k = callee_of c.args.callee.now in
    let r = rw (← c.self.view_is) at c.requires.calls in
    entered_ground g c.args.t c.args.action c.self.invariant (rw (← c.self.view_is) at c.requires.acts) _ _ _
    (call_tells g c.args.t c.self.invariant k r _ (c.fire_item.ensures (After g.script g.journal.items).parts c.self.invariant.follows.mirrors (called_valid g c.args.t c.self.invariant k r)))
    c.args.answer (c.requires.answers ∙ ap (λ v. called_answer v c.args.t k) (sym c.self.view_is)) refl c.write.ensures.items
