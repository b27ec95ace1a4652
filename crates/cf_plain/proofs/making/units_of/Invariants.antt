-- The loop invariants of `making::units_of`.
use Rattle.std.proofs.Common.{◌≡◌, ◌-◌, length, take}
use Rattle.cf_plain.proofs.making.units_of.Given as goal

-- the first units are there
abbrev pub invariant-loop-unit : goal.invariant-loop-unit
invariant-loop-unit l = l.units.items ≡ take (length l.units.items) l.text.units

abbrev pub decreases-loop-unit : goal.decreases-loop-unit
decreases-loop-unit l = length l.text.units - length l.units.items
