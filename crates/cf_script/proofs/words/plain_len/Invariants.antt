-- The loop invariants of `words::plain_len`.
use Rattle.std.proofs.Common.{◌≡◌, take, drop}
use Rattle.cf_syntax.specs.declared.place.Place.TheVariants.{Plain}
use Rattle.cf_syntax.specs.Words.{words_from}
use Rattle.cf_syntax.proofs.WordLaws.{goes_on_from}
use Rattle.cf_script.proofs.words.plain_len.Given as goal

-- the word so far, and how it goes on
abbrev pub invariant-loop-i : goal.invariant-loop-i
invariant-loop-i l = words_from Plain l.bytes ≡ goes_on_from (take l.i l.bytes) (words_from Plain (drop l.i l.bytes))
