-- The loop invariants of `running::push_copies`.
use Rattle.std.proofs.Common.{◌≡◌, replicate, vec_capacity}
use Rattle.std.specs.List.{All}
use Rattle.cf_ids.specs.Ranges.{IsObjectNumber}
use Rattle.cf_world.proofs.running.push_copies.Given as goal

-- the list has so many copies
abbrev pub invariant-loop : goal.invariant-loop
invariant-loop l = record {
  items : l.list.items ≡ replicate l.counter l.object-inside.0;
  numbers : All IsObjectNumber l.list.items;
  capacity : vec_capacity l.list ≡ vec_capacity l.initial.list;
}
