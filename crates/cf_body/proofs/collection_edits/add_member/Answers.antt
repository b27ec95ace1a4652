-- Answers to the goals of `collection_edits::add_member`.
use Rattle.cf_body.proofs.Collecting.{set_added}
use Rattle.cf_body.proofs.collection_edits.add_member.Goals as goal

pub returns : goal.returns
returns c = set_added _ _ _ c.add.ensures.plain c.plain.ensures c.args.element _ _ _ _ _ c.add.ensures.members c.add.ensures.added c.id_if-took.ensures c.unless_plain.ensures.took c.unless_plain.ensures.gave
