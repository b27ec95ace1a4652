-- Answers to the goals of `member_plans::add_member`.
use Rattle.cf_body.specs.declared.change.BodyChange.TheVariants.{AddMember}
use Rattle.cf_store.proofs.Doing.{changes_does}
use Rattle.cf_store.proofs.member_plans.add_member.Goals as goal

pub returns-in-None : goal.returns-in-None
returns-in-None c =
    let element = c.args.member.element in
    rw c.in-None.is (changes_does _ _ _ (AddMember element) (c.requires.adds element) c.changing.ensures)

pub returns-in-Some : goal.returns-in-Some
returns-in-Some c =
    let element = c.args.member.element in
    rw (c.in-Some.is, c.if-counts.true)
    (changes_does _ _ _ (AddMember element) (c.requires.adds element) c.changing-in-Some.ensures)
