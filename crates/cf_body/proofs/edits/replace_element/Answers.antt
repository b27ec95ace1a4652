-- Answers to the goals of `edits::replace_element`.
use Rattle.std.proofs.Common.{◌<◌, ℕ, length, ap}
use Rattle.cf_array.specs.Arrays.{Elements}
use Rattle.cf_body.proofs.Placing.{replace_done}
use Rattle.cf_body.proofs.edits.replace_element.Goals as goal

pub returns : goal.returns
returns c =
    replace_done c.args.plain _ _ c.args.at c.args.element _ _ c.requires.within
    (λ (within : c.args.at < length c.args.elements.now.items). ap (λ (e : Elements ℕ). e.items) (c.set.ensures.changed within))
    c.set.ensures.appended (rw c.unwrap-old.ensures at c.set.ensures.old) c.unless_plain.ensures.took c.unless_plain.ensures.gave
