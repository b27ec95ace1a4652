-- Answers to the goals of `tally::tallied`.
use Rattle.std.proofs.Common.{arith}
use Rattle.cf_render.proofs.Counting.{tallied_more, tally_fits}
use Rattle.cf_render.proofs.tally.tallied.Goals as goal

pub add-requires : goal.add-requires
add-requires c = tally_fits c.args.made c.args.edges.now c.loop-edge.edge-index c.edge-item.result (omega arith) c.edge-item.is c.loop-edge.tallies.items (omega arith) c.loop-edge.invariant

pub loop-edge-preserved : goal.loop-edge-preserved
loop-edge-preserved c = tallied_more c.args.made c.args.edges.now c.loop-edge.edge-index c.edge-item.result (omega arith) c.edge-item.is c.loop-edge.tallies.items c.add.new.tallies.items c.add.ensures c.loop-edge.invariant
