-- Answers to the goals of `edits::fill_field`.
use Rattle.cf_body.proofs.Placing.{fill_done}
use Rattle.cf_body.proofs.edits.fill_field.Goals as goal

pub returns : goal.returns
returns c = fill_done _ _ c.args.at c.args.element _ _ c.requires (rw c.replace-old.ensures.value c.index_mut.ensures.value) c.replace-old.ensures.after
