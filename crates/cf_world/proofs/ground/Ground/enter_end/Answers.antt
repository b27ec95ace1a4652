-- Answers to the goals of `ground::Ground::enter_end`.
use Rattle.std.proofs.Common.{refl}
use Rattle.cf_world.proofs.Counting.{entered_ground}
use Rattle.cf_world.proofs.Entered.{end_tells}
use Rattle.cf_world.proofs.ground.Ground.enter_end.Goals as goal

pub invariant_of-self : goal.invariant_of-self
invariant_of-self c =
    entered_ground c.self.inside c.args.t c.args.action c.self.invariant (rw (← c.self.view_is) at c.requires.acts) _ _ _
    (end_tells c.self.inside c.args.t c.self.invariant _ (rw (← c.self.view_is) at c.requires.end) c.start_at_end.ensures) _ refl refl c.write.ensures.items
