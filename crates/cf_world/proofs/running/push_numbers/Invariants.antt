-- The loop invariants of `running::push_numbers`.
use Rattle.std.proofs.Common.{◌≡◌, take, vec_capacity}
use Rattle.std.specs.List.{All}
use Rattle.cf_ids.specs.Ranges.{IsObjectNumber}
use Rattle.cf_world.proofs.running.push_numbers.Given as goal

-- the list has the numbers so far
abbrev pub invariant-loop-object : goal.invariant-loop-object
invariant-loop-object l = record {
  items : l.list.items ≡ take l.object-index l.objects;
  numbers : All IsObjectNumber l.list.items;
  capacity : vec_capacity l.list ≡ vec_capacity l.initial.list;
}
