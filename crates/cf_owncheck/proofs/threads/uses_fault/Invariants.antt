-- The loop invariants of `threads::uses_fault`.
use Rattle.std.proofs.Common.{ℕ, List, ◌++◌, ◌+◌, drop, length}
use Rattle.cf_syntax.specs.BlockLines.{BlockLine, packs_from, claims_from}
use Rattle.cf_syntax.specs.Counting.{Counted, HasRoom}
use Rattle.cf_syntax.specs.Owned.{uses_fault}
use Rattle.cf_owncheck.proofs.Walks.{Taking}
use Rattle.cf_owncheck.proofs.threads.uses_fault.Given as goal

abbrev pub invariant-loop-given : goal.invariant-loop-given
invariant-loop-given l = record {
  room : (n : ℕ) → HasRoom l.fn.own (length l.uses + n) → HasRoom l.own (length (drop l.given-index l.uses) + n);
  walk : (before mine : List BlockLine) (thread place : ℕ) → Counted l.fn.setup before → Counted l.fn.own mine
      → Taking l.setup l.own thread l.line (drop l.given-index l.uses) (uses_fault before mine thread place l.line l.uses)
      (before ++ packs_from thread place l.uses) (mine ++ claims_from place l.uses);
}
