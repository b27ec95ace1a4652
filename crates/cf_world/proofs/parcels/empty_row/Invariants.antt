-- The loop invariants of `parcels::empty_row`.
use Rattle.std.proofs.Common.{◌≡◌, ℕ, length, None}
use Rattle.std.specs.Prelude.{slice_index_or}
use Rattle.cf_world.proofs.parcels.empty_row.Given as goal

-- there are so many places, and nothing in them
abbrev pub invariant-loop : goal.invariant-loop
invariant-loop l = record {
  size : length l.row.items ≡ l.counter;
  empty : (k : ℕ) → slice_index_or l.row.items k None ≡ None;
}
