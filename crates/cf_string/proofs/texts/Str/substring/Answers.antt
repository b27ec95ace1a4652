-- Answers to the goals of `texts::Str::substring`.
use Rattle.std.proofs.Common.{◌≡◌, ◌+◌, ◌-◌, None, take, drop, refl, rules, arith}
use Rattle.cf_string.specs.Faults.{split_fault}
use Rattle.cf_string.proofs.Validity.{IsText-part}
use Rattle.cf_string.proofs.texts.Str.substring.Goals as goal

part_is : (c : goal.In_ok-units)
    → c.in_ok-units.units.items ≡ take c.args.len (drop c.args.at c.self.inside.units.items)
part_is c =
    let len : c.args.at + c.args.len - c.args.at ≡ c.args.len = omega arith in
    rw (c.in_ok-units.ensures.items, len, c.deref-2.ensures.value) refl

pub invariant_of-result : goal.invariant_of-result
invariant_of-result c =
    let none : split_fault c.self.inside.units.items c.args.at c.args.len ≡ None = search rules in
    rw (part_is c) (IsText-part _ c.args.at c.args.len c.self.invariant none)

pub returns-clause-units : goal.returns-clause-units
returns-clause-units c = rw (part_is c, ← c.self.view_is) refl
