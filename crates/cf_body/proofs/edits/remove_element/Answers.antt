-- Answers to the goals of `edits::remove_element`.
use Rattle.cf_body.proofs.Placing.{remove_done}
use Rattle.cf_body.proofs.edits.remove_element.Goals as goal

pub returns : goal.returns
returns c =
    remove_done c.args.plain _ _ c.args.at _ _ (rw c.unwrap-old.ensures at c.remove.ensures.out) (rw c.unwrap-old.ensures at c.remove.ensures.items)
    c.unless_plain.ensures.took c.unless_plain.ensures.gave
