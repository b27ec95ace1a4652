-- Answers to the goals of `change::put_member`.
use Rattle.std.proofs.Common.{◌≡◌, ◌∙◌, Some, None}
use Rattle.std.specs.Prelude.{position}
use Rattle.cf_contents.specs.Keys.{equal_to}
use Rattle.cf_plain.proofs.Placing.{set_there, set_more}
use Rattle.cf_plain.proofs.change.put_member.Goals as goal

pub returns-in-Some : goal.returns-in-Some
returns-in-Some c =
    let at : position (equal_to c.args.plain c.args.element) c.args.members.now.items ≡ Some c.in-Some.place = cc in
    set_there (equal_to c.args.plain c.args.element) c.args.members.now.items c.in-Some.place c.args.element at

pub returns-in_ok-push-in-None : goal.returns-in_ok-push-in-None
returns-in_ok-push-in-None c =
    let at : position (equal_to c.args.plain c.args.element) c.args.members.now.items ≡ None = cc in
    c.in_ok-push-in-None.ensures.items ∙ set_more (equal_to c.args.plain c.args.element) c.args.members.now.items c.args.element at
