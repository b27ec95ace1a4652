-- Answers to the goals of `places::home`.
use Rattle.std.proofs.Common.{◌≡◌, ℕ, ◌-◌, ◌%◌, subst, sym}
use Rattle.std.specs.Prelude.{bit_and}
use Rattle.std.proofs.lemmas.Nat.{and_mask}
use Rattle.cf_basichash.proofs.places.home.Goals as goal

pub returns-clause-home : goal.returns-clause-home
returns-clause-home c =
    subst (λ (n : ℕ). bit_and c.args.hash (n - 1) ≡ c.args.hash % n) (sym c.requires.1)
    (and_mask c.args.hash c.requires.0)
