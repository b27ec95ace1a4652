-- Answers to the goals of `names::note_hint`.
use Rattle.std.proofs.Common.{sym, ◌∙◌, arith}
use Rattle.cf_script.proofs.TestedLaws.{tested_set}
use Rattle.cf_script.proofs.names.note_hint.Goals as goal

pub returns-then-is_variable : goal.returns-then-is_variable
returns-then-is_variable c = λ names tested at.
    tested_set c.args.hints.now names _ c.args.place c.args.word.now (omega arith) (sym c.is_variable.ensures ∙ c.if-is_variable.true) tested at
