-- Answers to the goals of `laws::changes_keep_keys`.
use Rattle.cf_contents.proofs.ContentLaws.{form-after}
use Rattle.cf_contents.proofs.laws.changes_keep_keys.Goals as goal

pub returns : goal.returns
returns c = form-after
