-- The loop invariants of `description::push_words`.
use Rattle.std.proofs.Common.{◌≡◌, ◌++◌, take}
use Rattle.std.specs.List.{join_with_byte}
use Rattle.cf_plain.specs.Views.{content_of}
use Rattle.cf_plain.specs.Words.{words_of}
use Rattle.cf_plain.proofs.description.push_words.Given as goal

-- the words of the members before the place are written
abbrev pub invariant-loop-place : goal.invariant-loop-place
invariant-loop-place l = l.out.items ≡ l.initial.out.items ++ join_with_byte 32 (take l.place (words_of (content_of l.content)))
