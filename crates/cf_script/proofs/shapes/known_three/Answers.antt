-- Answers to the goals of `shapes::known_three`.
use Rattle.cf_script.specs.Views.{lent}
use Rattle.cf_script.specs.Shapes.{Reads}
use Rattle.cf_script.proofs.ShapeLaws.{if_some, three_reads}
use Rattle.cf_script.proofs.shapes.known_three.Goals as goal

pub returns : goal.returns
returns c =
    let ws = lent c.args.words.now in
    if_some c.of_three.result _ (Reads c.args.in_handler c.args.names.now c.args.form ws) c.of_three.ensures
    (three_reads c.args.in_handler c.args.names.now c.args.form ws c.word_at.result.now c.word_at-2.result.now c.word_at-3.result.now
    c.in_ok-variable.variable c.in_ok-key.key c.in_ok-value.value
    c.word_at.ensures c.word_at-2.ensures c.word_at-3.ensures c.in_ok-variable.ensures c.in_ok-key.ensures c.in_ok-value.ensures)
