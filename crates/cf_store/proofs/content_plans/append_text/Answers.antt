-- Answers to the goals of `content_plans::append_text`.
use Rattle.cf_store.proofs.Doing.{appended}
use Rattle.cf_store.proofs.content_plans.append_text.Goals as goal

pub returns : goal.returns
returns c = appended _ _ _ _ _ _ _ c.in-Some.ensures c.in-Some-text_in.ensures c.in_ok-other.ensures c.length.ensures.length c.edit_text.ensures
