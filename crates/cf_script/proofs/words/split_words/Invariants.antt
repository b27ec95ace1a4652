-- The loop invariants of `words::split_words`.
use Rattle.std.proofs.Common.{◌≡◌, ◌++◌, ◌<◌, false, get_or, length}
use Rattle.std.specs.Option.{option_map}
use Rattle.cf_syntax.specs.Words.{is_blank, words}
use Rattle.cf_script.specs.Views.{lent}
use Rattle.cf_script.proofs.words.split_words.Given as goal

-- the words so far, and those of the rest
abbrev pub invariant-loop-rest : goal.invariant-loop-rest
invariant-loop-rest l = record {
  so_far : option_map (λ ws. lent l.found.items ++ ws) (words l.rest) ≡ words l.line;
  starts : 0 < length l.rest → is_blank (get_or l.rest 0 0) ≡ false;
}

abbrev pub decreases-loop-rest : goal.decreases-loop-rest
decreases-loop-rest l = length l.rest
