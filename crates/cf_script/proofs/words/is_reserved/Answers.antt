-- Answers to the goals of `words::is_reserved`.
use Rattle.std.proofs.Common.{arith}
use Rattle.cf_script.proofs.NameLaws.{not_reserved}
use Rattle.cf_script.proofs.words.is_reserved.Goals as goal

pub returns-then-word-gt8 : goal.returns-then-word-gt8
returns-then-word-gt8 c = not_reserved c.args.word.now (λ h. omega (arith, h.1, c.if-word-gt8.true))
