-- The loop invariants of `numbers::number_below`.
use Rattle.std.proofs.Common.{◌≡◌, drop}
use Rattle.cf_syntax.specs.Numbers.{number_below}
use Rattle.cf_script.proofs.NumberLaws.{below}
use Rattle.cf_script.proofs.numbers.number_below.Given as goal

-- the number so far, and what the rest makes of it
abbrev pub invariant-loop-b : goal.invariant-loop-b
invariant-loop-b l = below l.limit l.number (drop l.b-index l.word) ≡ number_below l.limit l.word
