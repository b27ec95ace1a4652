-- Answers to the goals of `whole::write_all`.
use Rattle.std.proofs.Common.{rules}
use Rattle.cf_io.proofs.Told.{then_bytes-take}
use Rattle.cf_io.proofs.whole.write_all.Goals as goal

pub loop-out-preserved : goal.loop-out-preserved
loop-out-preserved g c = record {
  in_range = search rules;
  taken = then_bytes-take _ _ _ c.args.bytes.now c.loop-out.out c.in-Ok.count c.loop-out.invariant.taken
      c.in-Ok.ensures.taken;
  stays = search rules;
}
