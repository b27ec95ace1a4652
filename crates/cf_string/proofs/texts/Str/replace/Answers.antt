-- Answers to the goals of `texts::Str::replace`.
use Rattle.std.proofs.Common.{◌≡◌, None, ◌+◌, ◌∙◌, rules}
use Rattle.cf_string.specs.Units.{replacement}
use Rattle.cf_string.specs.Faults.{split_fault}
use Rattle.cf_string.proofs.Validity.{IsText-replacement, replaced_in_two, whole_split}
use Rattle.cf_string.proofs.texts.Str.replace.Goals as goal

may_cut : (c : goal.After-take_out) → split_fault c.self.inside.units.items c.args.at c.args.len ≡ None
may_cut c = search rules

done : (c : goal.After-take_out)
    → c.take_out.new.units.items ≡ replacement c.self.inside.units.items c.args.at c.args.len c.other.inside.units.items
done c =
    let put : c.put_in.new.units.items ≡ replacement c.self.inside.units.items (c.args.at + c.args.len) 0
    c.other.inside.units.items = search rules in
    c.take_out.ensures.units ∙ replaced_in_two _ c.args.at c.args.len _ _
    (whole_split _ c.args.at c.args.len (may_cut c)).fits put

pub invariant_of-self : goal.invariant_of-self
invariant_of-self c = rw (done c) (IsText-replacement _ c.args.at c.args.len _ c.self.invariant c.other.invariant
    (may_cut c))

pub returns-clause-units : goal.returns-clause-units
returns-clause-units c = rw (← c.self.view_is, ← c.other.view_is) (done c)
