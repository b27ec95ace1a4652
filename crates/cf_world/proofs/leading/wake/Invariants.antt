-- The loop invariants of `leading::wake`.
use Rattle.std.proofs.Common.{◌≡◌, map}
use Rattle.std.specs.Prelude.{vec_len}
use Rattle.cf_model.specs.Journals.{tick_flags}
use Rattle.cf_world.specs.Grounds.{flags_of}
use Rattle.cf_world.proofs.Waking.{changed_to}
use Rattle.cf_world.proofs.leading.wake.Given as goal

-- so many threads have their flags after the tick
abbrev pub invariant-loop-t : goal.invariant-loop-t
invariant-loop-t l = record {
  items : map flags_of l.flags.items ≡ changed_to flags_of (tick_flags l.time) l.t (map flags_of l.initial.flags.items);
  len : vec_len l.flags ≡ vec_len l.initial.flags;
}
