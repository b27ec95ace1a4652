-- The loop invariants of `words::text_from`.
use Rattle.std.proofs.Common.{◌≡◌, ◌++◌, drop, false}
use Rattle.cf_syntax.specs.Words.{text_from}
use Rattle.cf_script.proofs.words.text_from.Given as goal

-- what was read, and what the rest says
abbrev pub invariant-loop-b : goal.invariant-loop-b
invariant-loop-b l = l.text.items ++ text_from l.escape (drop l.b-index l.bytes) ≡ text_from false l.bytes
