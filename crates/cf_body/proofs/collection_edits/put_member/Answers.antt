-- Answers to the goals of `collection_edits::put_member`.
use Rattle.cf_body.proofs.Collecting.{set_put}
use Rattle.cf_body.proofs.collection_edits.put_member.Goals as goal

pub returns : goal.returns
returns c = set_put _ _ _ c.set-old.ensures.plain c.plain.ensures c.args.element _ _ _ _ c.set-old.ensures.members c.set-old.ensures.old c.unless_plain.ensures.took c.unless_plain.ensures.gave
