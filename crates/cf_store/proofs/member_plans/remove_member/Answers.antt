-- Answers to the goals of `member_plans::remove_member`.
use Rattle.cf_body.specs.declared.change.BodyChange.TheVariants.{RemoveMember}
use Rattle.cf_store.proofs.Doing.{changes_does}
use Rattle.cf_store.proofs.member_plans.remove_member.Goals as goal

pub returns-in-Some : goal.returns-in-Some
returns-in-Some c =
    let element = c.args.member.element in
    rw c.in-Some.is (changes_does _ _ _ (RemoveMember element) (c.requires.removes element) c.changing.ensures)
