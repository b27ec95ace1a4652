-- The loop invariants of `edits::push_all`.
use Rattle.std.proofs.Common.{◌≡◌, ◌+◌, ◌++◌, take, vec_len, vec_capacity}
use Rattle.cf_data.proofs.edits.push_all.Given as goal

-- the bytes before the index stand after the old ones
abbrev pub invariant-loop-byte : goal.invariant-loop-byte
invariant-loop-byte l = record {
  items : l.v.items ≡ l.initial.v.items ++ take l.byte-index l.b;
  len : vec_len l.v ≡ vec_len l.initial.v + l.byte-index;
  capacity : vec_capacity l.v ≡ vec_capacity l.initial.v;
}
