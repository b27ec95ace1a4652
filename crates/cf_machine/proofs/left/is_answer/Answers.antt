-- Answers to the goals of `left::is_answer`.
use Rattle.std.proofs.Common.{◌≡◌, true, Option, ℕ, sym, subst}
use Rattle.std.specs.Prelude.{◌↔◌}
use Rattle.cf_model.specs.Steps.{cut_answer}
use Rattle.cf_machine.proofs.left.is_answer.Goals as goal

pub returns-in-Some : goal.returns-in-Some
returns-in-Some c =
    subst (λ (q : Option ℕ). (c.is_cut_answer.result ≡ true) ↔ (c.args.answer.now ≡ cut_answer q c.args.parts.now.objects c.args.edges.now c.args.other.now))
    (sym c.in-Some.is) (c.is_cut_answer.ensures c.args.other.now)
