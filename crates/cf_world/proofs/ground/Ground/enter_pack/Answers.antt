-- Answers to the goals of `ground::Ground::enter_pack`.
use Rattle.std.proofs.Common.{refl}
use Rattle.cf_world.proofs.Counting.{entered_ground}
use Rattle.cf_world.proofs.Entered.{pack_here, pack_entered}
use Rattle.cf_world.proofs.ground.Ground.enter_pack.Goals as goal

pub pack-requires-clause-thread : goal.pack-requires-clause-thread
pack-requires-clause-thread c = (pack_here c.self.inside c.args.t c.self.invariant c.args.to c.args.place c.args.object (rw (← c.self.view_is) at c.requires.acts.thread) (rw (← c.self.view_is) at c.requires.pack)).0

pub pack-requires-clause-place : goal.pack-requires-clause-place
pack-requires-clause-place c = (pack_here c.self.inside c.args.t c.self.invariant c.args.to c.args.place c.args.object (rw (← c.self.view_is) at c.requires.acts.thread) (rw (← c.self.view_is) at c.requires.pack)).1

pub invariant_of-self : goal.invariant_of-self
invariant_of-self c =
    entered_ground c.self.inside c.args.t c.args.action c.self.invariant (rw (← c.self.view_is) at c.requires.acts) _ _ _
    (pack_entered c.self.inside c.args.t c.self.invariant c.args.to c.args.place c.args.object (rw (← c.self.view_is) at c.requires.acts.thread) (rw (← c.self.view_is) at c.requires.pack) _ c.pack.ensures)
    c.answer_for.result c.answer_for.ensures refl c.write.ensures.items
