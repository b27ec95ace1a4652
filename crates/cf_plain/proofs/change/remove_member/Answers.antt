-- Answers to the goals of `change::remove_member`.
use Rattle.std.proofs.Common.{◌≡◌, ◌∙◌, Some, None}
use Rattle.std.specs.Prelude.{position}
use Rattle.cf_contents.specs.Keys.{equal_to}
use Rattle.cf_plain.proofs.Placing.{removed_there, removed_none}
use Rattle.cf_plain.proofs.change.remove_member.Goals as goal

pub returns-in-Some : goal.returns-in-Some
returns-in-Some c =
    let at : position (equal_to c.args.plain c.args.element.now) c.args.members.now.items ≡ Some c.in-Some.place = cc in
    c.remove.ensures.items ∙ removed_there (equal_to c.args.plain c.args.element.now) c.args.members.now.items c.in-Some.place at

pub returns-in_default : goal.returns-in_default
returns-in_default c =
    let at : position (equal_to c.args.plain c.args.element.now) c.args.members.now.items ≡ None = cc in
    removed_none (equal_to c.args.plain c.args.element.now) c.args.members.now.items at
