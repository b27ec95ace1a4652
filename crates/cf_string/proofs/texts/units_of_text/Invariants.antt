-- The loop invariants of `texts::units_of_text`.
use Rattle.std.proofs.Common.{◌≡◌}
use Rattle.cf_string.specs.Units.{units_of}
use Rattle.cf_string.proofs.texts.units_of_text.Given as goal

abbrev pub invariant-loop-character : goal.invariant-loop-character
invariant-loop-character l = l.units.items ≡ units_of l.yielded
