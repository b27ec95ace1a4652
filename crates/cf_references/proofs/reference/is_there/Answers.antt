-- Answers to the goals of `reference::is_there`.
use Rattle.std.proofs.Common.{◌∙◌}
use Rattle.cf_references.proofs.Finding.{there-any}
use Rattle.cf_references.proofs.reference.is_there.Goals as goal

pub returns : goal.returns
returns c = c.stands.ensures ∙ there-any c.args.reference.now c.args.references.now
