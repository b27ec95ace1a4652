-- Answers to the goals of `collection_edits::remove_least`.
use Rattle.cf_body.proofs.Collecting.{heap_removed}
use Rattle.cf_body.proofs.collection_edits.remove_least.Goals as goal

pub returns : goal.returns
returns c = heap_removed _ _ _ c.remove_least-old.ensures.plain c.plain.ensures _ _ _ _ _ _ c.remove_least-old.ensures.adds c.remove_least-old.ensures.rows c.remove_least-old.ensures.out c.unless_plain.ensures.took c.unless_plain.ensures.gave
