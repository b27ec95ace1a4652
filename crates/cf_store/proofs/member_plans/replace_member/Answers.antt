-- Answers to the goals of `member_plans::replace_member`.
use Rattle.cf_body.specs.declared.change.BodyChange.TheVariants.{PutMember}
use Rattle.cf_store.proofs.Doing.{changes_does}
use Rattle.cf_store.proofs.member_plans.replace_member.Goals as goal

pub returns-in-Some : goal.returns-in-Some
returns-in-Some c =
    let element = c.args.member.element in
    rw c.in-Some.is (changes_does _ _ _ (PutMember element) (c.requires.puts element) c.changing.ensures)
