-- Answers to the goals of `texts::Str::delete`.
use Rattle.std.proofs.Common.{◌≡◌, [], None, rules}
use Rattle.cf_string.specs.Units.{replacement}
use Rattle.cf_string.specs.Faults.{split_fault}
use Rattle.cf_string.proofs.Validity.{IsText-nil, IsText-replacement}
use Rattle.cf_string.proofs.texts.Str.delete.Goals as goal

pub invariant_of-self : goal.invariant_of-self
invariant_of-self c =
    let gone : c.take_out.new.units.items ≡ replacement c.self.inside.units.items c.args.at c.args.len [] = search rules in
    let none : split_fault c.self.inside.units.items c.args.at c.args.len ≡ None = search rules in
    rw gone (IsText-replacement _ c.args.at c.args.len [] c.self.invariant IsText-nil none)
