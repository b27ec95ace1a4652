-- The loop invariants of `put::put_words`.
use Rattle.std.proofs.Common.{◌≡◌, ◌++◌, take}
use Rattle.cf_render.specs.Rows.{spaced, texts_in}
use Rattle.cf_render.proofs.put.put_words.Given as goal

abbrev pub invariant-loop-word : goal.invariant-loop-word
invariant-loop-word l = l.text.items ≡ l.initial.text.items ++ spaced (texts_in l.script (take l.word-index l.words))
