-- Answers to the goals of `begun::Begun::stall`.
use Rattle.std.proofs.Common.{refl}
use Rattle.cf_next.specs.declared.action.Action.TheVariants as actions
use Rattle.cf_world.proofs.LeadWorlds.{has_place, begun_led}
use Rattle.cf_world.proofs.begun.Begun.stall.Goals as goal

pub enter_stall-requires-clause-place : goal.enter_stall-requires-clause-place
enter_stall-requires-clause-place c = has_place c.self.inside c.self.invariant (rw (← c.self.view_is) at c.requires.below)

pub invariant_of-self : goal.invariant_of-self
invariant_of-self c =
    begun_led c.self.inside _ actions.Stall c.self.invariant c.enter_stall.ensures refl refl refl refl refl (rw (← c.self.view_is) at c.requires.below)
