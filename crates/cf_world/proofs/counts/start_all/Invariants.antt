-- The loop invariants of `counts::start_all`.
use Rattle.std.proofs.Common.{◌≡◌, map}
use Rattle.std.specs.Prelude.{vec_len}
use Rattle.cf_world.specs.Grounds.{flags_of}
use Rattle.cf_world.proofs.Waking.{changed_to}
use Rattle.cf_world.proofs.Counting.{started}
use Rattle.cf_world.proofs.counts.start_all.Given as goal

-- so many threads are started
abbrev pub invariant-loop-t : goal.invariant-loop-t
invariant-loop-t l = record {
  items : map flags_of l.flags.items ≡ changed_to flags_of started l.t (map flags_of l.initial.flags.items);
  len : vec_len l.flags ≡ vec_len l.initial.flags;
}
