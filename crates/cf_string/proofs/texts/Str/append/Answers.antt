-- Answers to the goals of `texts::Str::append`.
use Rattle.std.proofs.Common.{◌≡◌, ◌++◌, rules}
use Rattle.cf_string.proofs.Validity.{IsText-append}
use Rattle.cf_string.proofs.texts.Str.append.Goals as goal

pub invariant_of-self : goal.invariant_of-self
invariant_of-self c =
    let joined : c.push_all.new.units.items ≡ c.self.inside.units.items ++ c.other.inside.units.items = search rules in
    rw joined (IsText-append _ _ c.self.invariant c.other.invariant)
