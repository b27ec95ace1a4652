-- Answers to the goals of `rows::Rows::remove`.
use Rattle.std.proofs.Common.{◌<◌, length, arith}
use Rattle.cf_basichash.proofs.SeekLemmas.{table_without}
use Rattle.cf_basichash.proofs.rows.Rows.remove.Goals as goal

pub invariant_of-self : goal.invariant_of-self
invariant_of-self g c =
    let below : c.args.i < length c.self.inside.rows.items = omega (arith, c.if-i-len.true, c.len.ensures) in
    table_without _ _ _ _ _ _ _ _ c.self.invariant c.args.i below c.remove.ensures.hashes c.remove.ensures.room
    c.remove-then-i-len.ensures.items c.remove-then-i-len.ensures.capacity
