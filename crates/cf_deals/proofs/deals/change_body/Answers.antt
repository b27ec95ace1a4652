-- Answers to the goals of `deals::change_body`.
use Rattle.std.proofs.Common.{◌≡◌, ℕ, Option, None, slice_get, sym, ap, ◌∙◌}
use Rattle.std.specs.Option.{option_copied}
use Rattle.cf_plain.specs.Views.{change_of}
use Rattle.cf_model.specs.Deals.{change_deal}
use Rattle.cf_deals.proofs.Changing.{absent-deal}
use Rattle.cf_deals.proofs.deals.change_body.Goals as goal

pub returns-in-None : goal.returns-in-None
returns-in-None c =
    let p = c.args.parts.now in
    let change = change_of c.args.change in
    let none : slice_get p.objects c.in-Some.number ≡ None = sym c.object.ensures ∙ ap option_copied c.in-None.is in
    c.answering-in-None.ensures p ∙ absent-deal p c.args.answer c.in-Some.number change none
    ∙ ap (λ (b : Option ℕ). change_deal p c.args.answer b change) (sym c.in-Some.is)
