-- Answers to the goals of `collection_edits::remove_member`.
use Rattle.cf_body.proofs.Collecting.{set_removed}
use Rattle.cf_body.proofs.collection_edits.remove_member.Goals as goal

pub returns : goal.returns
returns c = set_removed _ _ _ c.remove-old.ensures.plain c.plain.ensures c.args.element.now _ _ _ _ c.remove-old.ensures.members c.remove-old.ensures.out c.unless_plain.ensures.took c.unless_plain.ensures.gave
