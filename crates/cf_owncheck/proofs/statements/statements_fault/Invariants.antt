-- The loop invariants of `statements::statements_fault`.
use Rattle.std.proofs.Common.{List, ◌++◌, drop, map, length}
use Rattle.cf_syntax.specs.BlockLines.{BlockLine, says}
use Rattle.cf_syntax.specs.Counting.{Counted, HasRoom}
use Rattle.cf_syntax.specs.Owned.{statements_fault}
use Rattle.cf_owncheck.proofs.Walks.{Reached}
use Rattle.cf_owncheck.proofs.statements.statements_fault.Given as goal

abbrev pub invariant-loop-i : goal.invariant-loop-i
invariant-loop-i l = record {
  room : HasRoom l.counts (length (drop l.i l.statements));
  walk : (earlier : List BlockLine) → Counted l.fn.counts earlier
      → Reached l.script l.counts (drop l.i l.lines) (drop l.i l.statements) (statements_fault l.script earlier l.lines l.statements) (earlier ++ map says l.statements);
}
