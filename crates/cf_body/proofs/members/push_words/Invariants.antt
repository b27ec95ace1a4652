-- The loop invariants of `members::push_words`.
use Rattle.std.proofs.Common.{◌≡◌, ◌++◌, take}
use Rattle.std.specs.List.{join_with_byte}
use Rattle.cf_body.specs.Bodies.{content_of, words_of}
use Rattle.cf_body.proofs.members.push_words.Given as goal

-- the words of the members before the place are written
abbrev pub invariant-loop-place : goal.invariant-loop-place
invariant-loop-place l = l.out.items ≡ l.initial.out.items ++ join_with_byte 32 (take l.place (words_of (content_of l.kind)))
