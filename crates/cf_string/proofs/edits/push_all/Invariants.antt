-- The loop invariants of `edits::push_all`.
use Rattle.std.proofs.Common.{◌≡◌, ◌+◌, ◌++◌, take, vec_len, vec_capacity}
use Rattle.cf_string.proofs.edits.push_all.Given as goal

-- the units before the index stand after the old ones
abbrev pub invariant-loop-unit : goal.invariant-loop-unit
invariant-loop-unit l = record {
  units : l.units.items ≡ l.initial.units.items ++ take l.unit-index l.more;
  len : vec_len l.units ≡ vec_len l.initial.units + l.unit-index;
  capacity : vec_capacity l.units ≡ vec_capacity l.initial.units;
}
