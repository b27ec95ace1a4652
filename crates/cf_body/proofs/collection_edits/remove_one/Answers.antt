-- Answers to the goals of `collection_edits::remove_one`.
use Rattle.cf_body.proofs.Collecting.{bag_removed}
use Rattle.cf_body.proofs.collection_edits.remove_one.Goals as goal

pub returns : goal.returns
returns c = bag_removed _ _ _ c.remove-old.ensures.plain c.plain.ensures c.args.element.now _ _ _ _ c.remove-old.ensures.rows c.remove-old.ensures.out c.unless_plain.ensures.took c.unless_plain.ensures.gave
