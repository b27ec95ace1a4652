-- Answers to the goals of `collection_edits::add_element`.
use Rattle.cf_body.proofs.Collecting.{heap_added}
use Rattle.cf_body.proofs.collection_edits.add_element.Goals as goal

pub returns : goal.returns
returns c = heap_added _ _ _ c.add.ensures.plain c.plain.ensures c.args.element _ _ _ _ _ c.add.ensures.adds c.add.ensures.rows c.unless_plain.ensures.took c.unless_plain.ensures.gave
