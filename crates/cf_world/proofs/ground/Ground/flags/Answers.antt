-- Answers to the goals of `ground::Ground::flags`.
use Rattle.std.proofs.Common.{◌<◌, length, arith}
use Rattle.cf_world.proofs.Telling.{flags_count, flags_told}
use Rattle.cf_world.proofs.ground.Ground.flags.Goals as goal

pub index-requires : goal.index-requires
index-requires c = omega (arith, (rw (← c.self.view_is, ← c.t.view_is) at c.requires), flags_count c.self.inside c.self.invariant)

pub returns : goal.returns
returns c =
    let within : c.t.inside.0 < length c.self.inside.flags.items = omega (arith, (rw (← c.self.view_is, ← c.t.view_is) at c.requires), flags_count c.self.inside c.self.invariant) in
    rw (← c.self.view_is, ← c.t.view_is) (flags_told c.self.inside c.self.invariant c.t.inside.0 c.index.result.now within c.index.ensures)
