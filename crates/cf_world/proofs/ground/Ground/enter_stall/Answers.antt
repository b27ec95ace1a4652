-- Answers to the goals of `ground::Ground::enter_stall`.
use Rattle.std.proofs.Common.{refl}
use Rattle.cf_world.proofs.LeadLaws.{stall_ground, stall_view}
use Rattle.cf_world.proofs.ground.Ground.enter_stall.Goals as goal

pub invariant_of-self : goal.invariant_of-self
invariant_of-self c =
    stall_ground c.self.inside c.self.invariant _ (rw (← c.self.view_is) at c.requires.due) (rw (← c.self.view_is) at c.requires.place).short refl c.write.ensures.items
    refl refl refl refl refl

pub returns : goal.returns
returns c =
    rw (← c.self.view_is) (stall_view c.self.inside c.self.invariant
    (record { script = c.self.inside.script; journal = c.write.new.journal; store = c.self.inside.store; parcels = c.self.inside.parcels; flags = c.self.inside.flags; time = c.self.inside.time; loops = c.self.inside.loops }) (rw (← c.self.view_is) at c.requires.due) refl c.write.ensures.items c.write.ensures.room (rw (← c.self.view_is) at c.requires.place))
