-- Answers to the goals of `action::is_same_action`.
use Rattle.std.proofs.Common.{◌≡◌, true, sym, ap, ◌∙◌}
use Rattle.std.proofs.lemmas.Bool.{eqb-true}
use Rattle.cf_next.specs.Actions.{site_of}
use Rattle.cf_same.specs.Alike.{number_of, rest_of}
use Rattle.cf_same.proofs.Alike.{alike}
use Rattle.cf_same.proofs.action.is_same_action.Goals as goal
use Rattle.cf_same.proofs.action.is_same_action.Goals.{then-number_of, else-number_of}

pub returns-then-is_same_site : goal.returns-then-is_same_site
returns-then-is_same_site c =
    let a = c.args.a.now in
    let b = c.args.b.now in
    elim c.if-number_of.branch [
      | then-number_of w ↦
          (let k : number_of a ≡ number_of b = cc in
          let same : w.is_same_site.result ≡ true = cc in
          let there : site_of a ≡ site_of b = cc (w.is_same_site.ensures.0 same) in (
            λ (h : c.is_same_rest.result ≡ true).
                (let r : rest_of a ≡ rest_of b = cc (c.is_same_rest.ensures.0 h) in alike a b k there r),
            λ (e : a ≡ b). c.is_same_rest.ensures.1 (c.rest_of.ensures ∙ ap rest_of e ∙ sym c.rest_of-then-is_same_site.ensures),
          ))
      | else-number_of w ↦ absurd (w.if-number_of.false (eqb-true c.number_of.result c.number_of-2.result (sym w.value-is ∙ c.if-is_same_site.true)))
    ]
