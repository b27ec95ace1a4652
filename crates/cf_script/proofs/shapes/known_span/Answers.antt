-- Answers to the goals of `shapes::known_span`.
use Rattle.cf_script.specs.Views.{lent}
use Rattle.cf_script.specs.Shapes.{Reads}
use Rattle.cf_script.proofs.ShapeLaws.{if_some, span_reads}
use Rattle.cf_script.proofs.shapes.known_span.Goals as goal

pub returns : goal.returns
returns c =
    let ws = lent c.args.words.now in
    if_some c.of_span.result _ (Reads c.args.in_handler c.args.names.now c.args.form ws) c.of_span.ensures
    (span_reads c.args.in_handler c.args.names.now c.args.form ws c.word_at.result.now c.word_at-2.result.now c.word_at-3.result.now
    c.in_ok-variable.variable c.in_ok-at.at c.in_ok-len.len
    c.word_at.ensures c.word_at-2.ensures c.word_at-3.ensures c.in_ok-variable.ensures c.in_ok-at.ensures c.in_ok-len.ensures)
