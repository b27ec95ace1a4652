-- The loop invariants of `texts::first_place`.
use Rattle.std.proofs.Common.{ℕ, ◌≤◌, ◌<◌}
use Rattle.cf_string.specs.Units.{StandsAt}
use Rattle.cf_string.proofs.texts.first_place.Given as goal

abbrev pub invariant-loop-place : goal.invariant-loop-place
invariant-loop-place l = (k : ℕ) → l.from ≤ k → k < l.place → ¬ (StandsAt l.units l.other k)
