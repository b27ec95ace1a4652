-- The loop invariants of `hashing::hash_text`.
use Rattle.std.proofs.Common.{◌≡◌, ◌-◌, fold, drop, length}
use Rattle.cf_types.specs.Hash.{hash_step, utf8_of}
use Rattle.cf_types.proofs.hashing.hash_text.Given as goal

-- the rest of the text, taken from here on, gives the hash of the whole
abbrev pub invariant-loop-at : goal.invariant-loop-at
invariant-loop-at l = fold hash_step l.hash (utf8_of (drop l.at l.text.units))
    ≡ fold hash_step l.start (utf8_of l.text.units)

abbrev pub decreases-loop-at : goal.decreases-loop-at
decreases-loop-at l = length l.text.units - l.at
