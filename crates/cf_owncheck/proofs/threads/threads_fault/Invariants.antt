-- The loop invariants of `threads::threads_fault`.
use Rattle.std.proofs.Common.{ℕ, List, drop}
use Rattle.cf_syntax.specs.BlockLines.{BlockLine}
use Rattle.cf_syntax.specs.Counting.{Counted}
use Rattle.cf_syntax.specs.Owned.{threads_fault}
use Rattle.cf_owncheck.proofs.Walks.{Threading}
use Rattle.cf_owncheck.proofs.threads.threads_fault.Given as goal

abbrev pub invariant-loop-block : goal.invariant-loop-block
invariant-loop-block l = (before : List BlockLine) (thread : ℕ) → Counted l.fn.setup before
    → Threading l.script l.setup (drop l.block-index l.blocks) (threads_fault l.script before thread l.blocks)
