use Rattle.std.proofs.Common.{◌≡◌, ℕ, ◌<◌, false, not, length, eqb, ◌&&◌}
use Rattle.cf_loops.specs.Following.{loop_at}
use Rattle.cf_loops.specs.Changing.{places_at}
use Rattle.cf_loops.proofs.loops.Loops.is_elsewhere.Given as goal

abbrev pub invariant-loop-w : goal.invariant-loop-w
invariant-loop-w l = (k : ℕ) → k < l.w → (not (eqb k l.fn.t) && not (eqb (length (places_at l.i (loop_at k l.self))) 0)) ≡ false
