-- Answers to the goals of `ground::Ground::enter_tick`.
use Rattle.std.proofs.Common.{refl}
use Rattle.cf_world.proofs.LeadLaws.{tick_ground, tick_view}
use Rattle.cf_world.proofs.ground.Ground.enter_tick.Goals as goal

pub invariant_of-self : goal.invariant_of-self
invariant_of-self c =
    tick_ground c.self.inside c.self.invariant c.args.time _ (rw (← c.self.view_is) at c.requires.due) (rw (← c.self.view_is) at c.requires.place).short refl c.write.ensures.items
    refl refl c.wake.ensures refl refl

pub returns : goal.returns
returns c =
    rw (← c.self.view_is) (tick_view c.self.inside c.self.invariant c.args.time
    (record { script = c.self.inside.script; journal = c.write.new.journal; store = c.self.inside.store; parcels = c.self.inside.parcels; flags = c.wake.new.flags; time = c.args.time; loops = c.self.inside.loops }) (rw (← c.self.view_is) at c.requires.due) refl c.write.ensures.items c.write.ensures.room (rw (← c.self.view_is) at c.requires.place))
