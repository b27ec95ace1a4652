-- Answers to the goals of `ground::Ground::enter_pass`.
use Rattle.std.proofs.Common.{refl}
use Rattle.cf_world.proofs.Counting.{entered_ground}
use Rattle.cf_world.proofs.Entered.{pass_tells}
use Rattle.cf_world.proofs.ground.Ground.enter_pass.Goals as goal

pub invariant_of-self : goal.invariant_of-self
invariant_of-self c =
    entered_ground c.self.inside c.args.t c.args.action c.self.invariant (rw (← c.self.view_is) at c.requires.acts) _ _ _
    (pass_tells c.self.inside c.args.t c.self.invariant c.args.answer c.args.list.now (rw (← c.self.view_is) at c.requires.passes)) _ refl refl c.write.ensures.items
