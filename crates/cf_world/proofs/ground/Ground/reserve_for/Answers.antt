-- Answers to the goals of `ground::Ground::reserve_for`.
use Rattle.cf_world.proofs.Telling.{may_grow}
use Rattle.cf_world.proofs.ground.Ground.reserve_for.Goals as goal

pub reserve_for-requires : goal.reserve_for-requires
reserve_for-requires c = may_grow c.self.inside c.self.invariant
