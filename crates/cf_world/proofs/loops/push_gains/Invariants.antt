-- The loop invariants of `loops::push_gains`.
use Rattle.std.proofs.Common.{◌≡◌, ◌+◌, ◌++◌, replicate, vec_capacity, vec_len}
use Rattle.cf_world.proofs.loops.push_gains.Given as goal

-- the list has so many copies after what it had
abbrev pub invariant-loop : goal.invariant-loop
invariant-loop l = record {
  items : l.gained.items ≡ l.initial.gained.items ++ replicate l.counter l.object;
  length : vec_len l.gained ≡ vec_len l.initial.gained + l.counter;
  capacity : vec_capacity l.gained ≡ vec_capacity l.initial.gained;
}
