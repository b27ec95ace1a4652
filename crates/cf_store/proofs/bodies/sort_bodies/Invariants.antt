-- The loop invariants of `bodies::sort_bodies`.
use Rattle.std.proofs.Common.{◌≡◌}
use Rattle.std.specs.Prelude.{vec_len, vec_capacity}
use Rattle.cf_store.proofs.bodies.sort_bodies.Given as goal

-- what contracts see of the bodies stays
abbrev pub invariant-loop-place : goal.invariant-loop-place
invariant-loop-place l = record {
  items : l.bodies.items ≡ l.initial.bodies.items;
  len : vec_len l.bodies ≡ vec_len l.initial.bodies;
  capacity : vec_capacity l.bodies ≡ vec_capacity l.initial.bodies;
}
