-- The loop invariants of `lines::says_nothing`.
use Rattle.std.proofs.Common.{◌≡◌, drop}
use Rattle.cf_syntax.specs.Words.{says_nothing}
use Rattle.cf_script.proofs.lines.says_nothing.Given as goal

abbrev pub invariant-loop-b : goal.invariant-loop-b
invariant-loop-b l = says_nothing (drop l.b-index l.line) ≡ says_nothing l.line
