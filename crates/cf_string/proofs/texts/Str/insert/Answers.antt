-- Answers to the goals of `texts::Str::insert`.
use Rattle.std.proofs.Common.{◌≡◌, None, rules}
use Rattle.cf_string.specs.Units.{replacement}
use Rattle.cf_string.specs.Faults.{split_fault}
use Rattle.cf_string.proofs.Validity.{IsText-replacement}
use Rattle.cf_string.proofs.texts.Str.insert.Goals as goal

pub invariant_of-self : goal.invariant_of-self
invariant_of-self c =
    let put : c.put_in.new.units.items ≡ replacement c.self.inside.units.items c.args.at 0 c.other.inside.units.items =
    search rules in
    let none : split_fault c.self.inside.units.items c.args.at 0 ≡ None = search rules in
    rw put (IsText-replacement _ c.args.at 0 _ c.self.invariant c.other.invariant none)
