-- The loop invariants of `words::skip_blanks`.
use Rattle.std.proofs.Common.{◌≡◌, drop}
use Rattle.cf_syntax.specs.Words.{words}
use Rattle.cf_script.proofs.words.skip_blanks.Given as goal

abbrev pub invariant-loop-i : goal.invariant-loop-i
invariant-loop-i l = words (drop l.i l.bytes) ≡ words l.bytes
