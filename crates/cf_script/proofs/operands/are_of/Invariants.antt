-- The loop invariants of `operands::are_of`.
use Rattle.std.proofs.Common.{◌≡◌, [], drop}
use Rattle.cf_syntax.specs.FormWords.{are_of}
use Rattle.cf_script.specs.Views.{lent}
use Rattle.cf_script.proofs.operands.are_of.Given as goal

-- the words from here on decide
abbrev pub invariant-loop-i : goal.invariant-loop-i
invariant-loop-i l = are_of l.in_handler (drop l.i l.operands) l.before (drop l.i (lent l.words)) ≡ are_of l.in_handler l.operands [] (lent l.words)
