-- Answers to the goals of `deals::change_by`.
use Rattle.std.proofs.Common.{sym, ap, ◌∙◌}
use Rattle.cf_ids.specs.declared.answer.Answer.{Answer}
use Rattle.cf_plain.specs.Views.{change_of}
use Rattle.cf_model.specs.Deals.{change_deal, change_unless_skipped}
use Rattle.cf_deals.proofs.Changing.{skipped-deal}
use Rattle.cf_deals.proofs.deals.change_by.Goals as goal

pub returns-in-Skip : goal.returns-in-Skip
returns-in-Skip c =
    let p = c.args.parts.now in
    let body = c.args.body.now in
    let change = change_of c.args.deed.change in
    c.skipping.ensures p ∙ skipped-deal p body
    ∙ sym (ap (λ (a : Answer). change_deal p a body (change_unless_skipped a change)) c.in-Skip.is)
