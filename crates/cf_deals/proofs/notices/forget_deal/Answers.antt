-- Answers to the goals of `notices::forget_deal`.
use Rattle.std.proofs.Common.{◌≡◌, ℕ, ◌<◌, ◌^◌, ap, ◌∙◌, arith, w64}
use Rattle.std.proofs.lemmas.Int.{to_z_pos}
use Rattle.std.specs.Prelude.{ℤ, pos}
use Rattle.cf_ids.specs.declared.answer.Answer.TheVariants as answers
use Rattle.cf_model.specs.Deals.{answering, forget_deal}
use Rattle.cf_deals.proofs.notices.forget_deal.Goals as goal

pub returns : goal.returns
returns c =
    let said = λ (z : ℤ). answering (forget_deal c.args.parts.now c.args.name.now c.args.observer c.args.filter.now).parts (answers.Number z) in
    c.updating.ensures c.args.parts.now
    ∙ ap said (to_z_pos w64 c.forgotten-found.result (omega (arith, c.forgotten-found.ensures.few)))
    ∙ ap (λ (n : ℕ). said (pos n)) c.forgotten-found.ensures.count
