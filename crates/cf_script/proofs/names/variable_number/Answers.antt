-- Answers to the goals of `names::variable_number`.
use Rattle.std.proofs.Common.{ℕ, List, ap, sym, ◌∙◌, subst}
use Rattle.cf_syntax.specs.FormStatements.{word_at}
use Rattle.cf_script.specs.Views.{texts}
use Rattle.cf_script.specs.Tables.{AreTested}
use Rattle.cf_script.proofs.TestedLaws.{tested_more, word_numbered}
use Rattle.cf_script.proofs.names.variable_number.Goals as goal

pub returns-clause-tested : goal.returns-clause-tested
returns-clause-tested c =
    let word = c.args.word.now in
    let names = texts c.args.names.now.keys in
    c.note_hint.ensures (texts c.number_of.new.names.keys)
    (subst (AreTested c.args.hints.now) (sym c.in_ok-place.ensures.names) (tested_more c.args.hints.now names word c.requires.tested))
    (ap (λ (ns : List (List ℕ)). word_at ns c.in_ok-place.place) c.in_ok-place.ensures.names ∙ word_numbered 256 word names c.in_ok-place.place c.in_ok-place.ensures.place)
