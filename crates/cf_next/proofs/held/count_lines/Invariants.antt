-- The loop invariants of `held::count_lines`.
use Rattle.std.proofs.Common.{take}
use Rattle.cf_syntax.specs.Counting.{Counted}
use Rattle.cf_next.specs.Demands.{frame_lines}
use Rattle.cf_next.specs.Views.{block_in, kind_of}
use Rattle.cf_next.proofs.held.count_lines.Given as goal

abbrev pub invariant-loop-k : goal.invariant-loop-k
invariant-loop-k l = Counted l.counts (take l.k (frame_lines l.script (kind_of l.kind) (block_in l.kind)))
