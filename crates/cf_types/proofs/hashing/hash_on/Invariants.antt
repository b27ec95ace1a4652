-- The loop invariants of `hashing::hash_on`.
use Rattle.std.proofs.Common.{◌≡◌, fold, take}
use Rattle.cf_types.specs.Hash.{hash_step}
use Rattle.cf_types.proofs.hashing.hash_on.Given as goal

-- the bytes before the index are taken
abbrev pub invariant-loop-byte : goal.invariant-loop-byte
invariant-loop-byte l = l.hash ≡ fold hash_step l.start (take l.byte-index l.bytes)
