-- Answers to the goals of `reference::is_free`.
use Rattle.std.proofs.Common.{◌∙◌, ap, sym, not}
use Rattle.cf_references.proofs.Finding.{none-any}
use Rattle.cf_references.proofs.reference.is_free.Goals as goal

pub returns : goal.returns
returns c = ap not c.is_reached.ensures ∙ sym (none-any c.args.object c.args.references.now)
