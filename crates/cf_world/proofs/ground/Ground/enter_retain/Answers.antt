-- Answers to the goals of `ground::Ground::enter_retain`.
use Rattle.std.proofs.Common.{refl}
use Rattle.cf_world.proofs.Counting.{entered_ground}
use Rattle.cf_world.proofs.Entered.{retain_tells}
use Rattle.cf_world.proofs.ground.Ground.enter_retain.Goals as goal

pub invariant_of-self : goal.invariant_of-self
invariant_of-self c =
    entered_ground c.self.inside c.args.t c.args.action c.self.invariant (rw (← c.self.view_is) at c.requires.acts) _ _ _
    (retain_tells c.self.inside c.args.t c.self.invariant c.args.object (rw (← c.self.view_is) at c.requires.retain)) c.answer_for-answer.result c.answer_for-answer.ensures refl c.write.ensures.items
