-- The loop invariants of `lines::pack_line`.
use Rattle.std.proofs.Common.{◌≡◌, ◌+◌, ◌≤◌, length}
use Rattle.std.specs.Prelude.{slice_get}
use Rattle.cf_syntax.specs.BlockLines.{packs_for}
use Rattle.cf_next.proofs.lines.pack_line.Given as goal

-- the blocks that are left have the line, by the number that is left
abbrev pub invariant-loop-block : goal.invariant-loop-block
invariant-loop-block l = record {
  line : slice_get (packs_for l.thread l.rest) l.left ≡ slice_get (packs_for 1 l.fn.blocks) l.fn.number;
  threads : l.thread + length l.rest ≤ 64;
}

abbrev pub decreases-loop-block : goal.decreases-loop-block
decreases-loop-block l = length l.rest
