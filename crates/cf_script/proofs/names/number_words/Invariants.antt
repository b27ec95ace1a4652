-- The loop invariants of `names::number_words`.
use Rattle.std.proofs.Common.{◌≡◌, drop}
use Rattle.cf_syntax.specs.FormWords.{numbers_of}
use Rattle.cf_script.specs.Views.{lent}
use Rattle.cf_script.specs.NamesViews.{with_line_numbers_of}
use Rattle.cf_script.proofs.names.number_words.Given as goal

-- the numbers so far, and what the words from here on make of them
abbrev pub invariant-loop-i : goal.invariant-loop-i
invariant-loop-i l = numbers_of (drop l.i l.operands) (drop l.i (lent l.words)) (with_line_numbers_of l.names l.numbers) ≡ numbers_of l.operands (lent l.words) (with_line_numbers_of l.fn.names l.fn.numbers)
