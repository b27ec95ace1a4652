-- Answers to the goals of `moved::pair_out`.
use Rattle.std.proofs.Common.{◌≡◌, ℕ, List, subst}
use Rattle.std.specs.Prelude.{IfOk}
use Rattle.cf_contents.specs.Contents.{unless_plain}
use Rattle.cf_contents.specs.Keys.{equal_to}
use Rattle.cf_plain.proofs.Placing.{pair_flat}
use Rattle.cf_plain.proofs.moved.pair_out.Goals as goal

pub returns : goal.returns
returns c =
    subst (λ (os : List ℕ). IfOk c.held.result (λ v. v.items ≡ unless_plain c.args.plain os))
    (pair_flat (equal_to c.args.plain c.args.key.now) c.args.pairs.now c.key_at-found.result c.value_at-value.result c.key_at-found.ensures c.value_at-value.ensures)
    c.held.ensures
