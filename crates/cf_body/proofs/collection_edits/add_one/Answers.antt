-- Answers to the goals of `collection_edits::add_one`.
use Rattle.cf_body.proofs.Collecting.{bag_added}
use Rattle.cf_body.proofs.collection_edits.add_one.Goals as goal

pub returns : goal.returns
returns c = bag_added _ _ _ c.add.ensures.plain c.plain.ensures c.args.element _ _ _ _ _ c.add.ensures.rows c.add.ensures.added c.id_if-took.ensures c.unless_plain.ensures.took c.unless_plain.ensures.gave
