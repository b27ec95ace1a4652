-- Answers to the goals of `numbers::is_hex`.
use Rattle.std.proofs.Common.{sym, ◌∙◌}
use Rattle.cf_script.proofs.HexLaws.{hex_even}
use Rattle.cf_script.proofs.numbers.is_hex.Goals as goal

pub returns-then-word-eq0 : goal.returns-then-word-eq0
returns-then-word-eq0 c = c.are_hex_digits.ensures ∙ sym (hex_even c.args.word.now c.if-word-eq0.true (sym c.if-is.ensures))
