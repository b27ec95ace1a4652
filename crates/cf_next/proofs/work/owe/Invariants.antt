-- The loop invariants of `work::owe`.
use Rattle.std.proofs.Common.{◌≡◌, ◌+◌, ◌++◌, length, map, vec_len, vec_capacity}
use Rattle.std.specs.List.{All}
use Rattle.cf_ids.specs.Ranges.{IsObjectNumber}
use Rattle.cf_next.specs.Stands.{release_of}
use Rattle.cf_next.specs.Views.{works_of}
use Rattle.cf_next.proofs.work.owe.Given as goal

-- those that are left come before what is there
abbrev pub invariant-loop-last : goal.invariant-loop-last
invariant-loop-last l = record {
  items : map release_of l.rest ++ works_of l.work.items ≡ map release_of l.fn.list ++ works_of l.initial.work.items;
  len : vec_len l.work + length l.rest ≡ vec_len l.initial.work + length l.fn.list;
  capacity : vec_capacity l.work ≡ vec_capacity l.initial.work;
  objects : All IsObjectNumber l.rest;
}

abbrev pub decreases-loop-last : goal.decreases-loop-last
decreases-loop-last l = length l.rest
