-- Answers to the goals of `edits::clear_field`.
use Rattle.cf_body.proofs.Placing.{clear_done}
use Rattle.cf_body.proofs.edits.clear_field.Goals as goal

pub returns : goal.returns
returns c = clear_done _ _ c.args.at _ _ c.requires (rw c.replace-old.ensures.value c.index_mut.ensures.value) c.replace-old.ensures.after
