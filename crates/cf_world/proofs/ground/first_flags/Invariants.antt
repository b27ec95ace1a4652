-- The loop invariants of `ground::first_flags`.
use Rattle.std.proofs.Common.{◌≡◌, ◌==◌, map}
use Rattle.std.specs.List.{range_with_len}
use Rattle.cf_model.specs.State.{flags_of as fresh_flags}
use Rattle.cf_world.specs.Grounds.{flags_of}
use Rattle.cf_world.proofs.ground.first_flags.Given as goal

-- the threads before this one have their flags
abbrev pub invariant-loop-t : goal.invariant-loop-t
invariant-loop-t l = map flags_of l.flags.items ≡ map (λ t. fresh_flags (t == 0)) (range_with_len 0 l.t)
