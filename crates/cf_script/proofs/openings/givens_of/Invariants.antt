-- The loop invariants of `openings::givens_of`.
use Rattle.std.proofs.Common.{◌≡◌, ◌++◌, drop}
use Rattle.cf_syntax.specs.Text.{givens_of, setup_variables}
use Rattle.cf_script.specs.Views.{lent}
use Rattle.cf_script.proofs.openings.givens_of.Given as goal

-- the variables so far, and those of the words from here on
abbrev pub invariant-loop-i : goal.invariant-loop-i
invariant-loop-i l = l.uses.items ++ givens_of (setup_variables l.blocks) (lent (drop l.i l.words)) (drop l.i l.numbers) ≡ givens_of (setup_variables l.blocks) (lent l.words) l.numbers
