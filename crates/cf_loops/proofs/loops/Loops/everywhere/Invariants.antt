use Rattle.std.proofs.Common.{◌≡◌, ◌*◌, ◌≤◌, length}
use Rattle.cf_next.specs.Held.{below}
use Rattle.cf_loops.specs.Following.{loop_at}
use Rattle.cf_loops.specs.Changing.{places_at}
use Rattle.cf_loops.proofs.loops.Loops.everywhere.Given as goal

abbrev pub invariant-loop-t : goal.invariant-loop-t
invariant-loop-t l = record {
  places_are : l.places ≡ length (below (λ t. places_at l.i (loop_at t l.self)) l.t);
  few : l.places ≤ 1025 * l.t;
}
