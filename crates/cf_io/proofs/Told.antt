-- Laws of bytes on their way.
use Rattle.std.proofs.Common.{ℕ, ◌≡◌, ◌+◌, ◌-◌, List, length, take, drop, Option, None, Some, refl}
use Rattle.std.proofs.lemmas.List.{append_assoc, take_rest}
use Rattle.std.proofs.Math.Seq.{take-add}
use Rattle.cf_io.specs.Bytes.{then_bytes}

-- Two pieces of one list, one after the other.
pub then_bytes-take : (t u v : Option (List ℕ)) (bytes : List ℕ) (n m : ℕ) → u ≡ then_bytes t (take n bytes)
    → v ≡ then_bytes u (take m (take (length bytes - n) (drop n bytes))) → v ≡ then_bytes t (take (n + m) bytes)
then_bytes-take None u v bytes n m first second = rw (second, first) refl
then_bytes-take (Some t) u v bytes n m first second = rw (second, first, take_rest, take-add, ← append_assoc) refl
