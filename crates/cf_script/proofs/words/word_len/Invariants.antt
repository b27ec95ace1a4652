-- The loop invariants of `words::word_len`.
use Rattle.std.proofs.Common.{◌≡◌, take, drop}
use Rattle.cf_syntax.specs.Words.{words_from}
use Rattle.cf_syntax.proofs.WordLaws.{IsWithin, goes_on_from}
use Rattle.cf_script.proofs.words.word_len.Given as goal

-- the word so far, and how it goes on
abbrev pub invariant-loop-i : goal.invariant-loop-i
invariant-loop-i l = record {
  within : IsWithin l.place;
  so_far : words_from l.fn.place l.bytes ≡ goes_on_from (take l.i l.bytes) (words_from l.place (drop l.i l.bytes));
}
