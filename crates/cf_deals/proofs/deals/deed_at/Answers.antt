-- Answers to the goals of `deals::deed_at`.
use Rattle.std.proofs.Common.{◌≡◌, ℕ, Option, ap, ◌∙◌}
use Rattle.cf_syntax.specs.Mentions.{used_at}
use Rattle.cf_contents.specs.Deeds.{deed_of}
use Rattle.cf_contents.specs.Keys.{numbered}
use Rattle.cf_plain.specs.Deeds.{deed_of as deed_view}
use Rattle.cf_model.specs.State.{Parts}
use Rattle.cf_state.proofs.Saying.{as-said}
use Rattle.cf_deals.proofs.deals.deed_at.Goals as goal

pub returns : goal.returns
returns c =
    let objects : c.as_slice-objects.result.now ≡ c.args.parts.now.objects =
    c.as_slice-objects.ensures.value ∙ ap (λ (p : Parts). p.objects) c.parts.view_is in
    let used = c.args.used.now in
    let a : c.see.result ≡ numbered c.args.parts.now.objects (used_at used 0) =
    c.see.ensures ∙ (λ i. numbered (objects i) (c.first_of.ensures i)) in
    let b : c.see-2.result ≡ numbered c.args.parts.now.objects (used_at used 1) =
    c.see-2.ensures ∙ (λ i. numbered (objects i) (c.second_of.ensures i)) in
    let d : c.see-3.result ≡ numbered c.args.parts.now.objects (used_at used 2) =
    c.see-3.ensures ∙ (λ i. numbered (objects i) (c.third_of.ensures i)) in
    as-said deed_view c.deed_by.result _ _ (λ i. deed_of (c.classes.ensures i) c.args.statement.now (a i) (b i) (d i)) c.deed_by.ensures
