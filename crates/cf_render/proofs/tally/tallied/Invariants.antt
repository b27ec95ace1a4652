-- The loop invariants of `tally::tallied`.
use Rattle.std.proofs.Common.{take}
use Rattle.cf_render.proofs.Counting.{IsTallied}
use Rattle.cf_render.proofs.tally.tallied.Given as goal

abbrev pub invariant-loop-edge : goal.invariant-loop-edge
invariant-loop-edge l = IsTallied l.made (take l.edge-index l.edges) l.tallies.items
