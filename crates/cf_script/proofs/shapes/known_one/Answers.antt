-- Answers to the goals of `shapes::known_one`.
use Rattle.cf_script.specs.Views.{lent}
use Rattle.cf_script.specs.Shapes.{Reads}
use Rattle.cf_script.proofs.ShapeLaws.{if_some, one_reads}
use Rattle.cf_script.proofs.shapes.known_one.Goals as goal

pub returns : goal.returns
returns c =
    let ws = lent c.args.words.now in
    if_some c.of_one.result _ (Reads c.args.in_handler c.args.names.now c.args.form ws) c.of_one.ensures
    (one_reads c.args.in_handler c.args.names.now c.args.form ws c.word_at.result.now c.in_ok-variable.variable c.word_at.ensures c.in_ok-variable.ensures)
