-- Counts of faults. An object at the outside (a source, a sink, a spawner) counts its faults in a number of 64 bits
-- that never falls. These words are this project's own.
use Rattle.std.specs.Prelude.{◌<◌, ◌≤◌, ◌≡◌, ◌⊎◌, ℕ, ◌-◌, ◌^◌, Result, OnOk, OnErr}

-- The count rose, or it stands at the end of its type, where it is taken as risen.
abbrev pub HasRisen : ℕ → ℕ → Type 0
HasRisen old new = (old < new) ⊎ (new ≡ 2 ^ 64 - 1)

-- What the count of an object tells of a call on it: an error comes only if the count has risen, and else the
-- count is as before.
pub record HasCause {T E : Type 0} (result : Result T E) (old new : ℕ) : Type 0 where
  pub never_falls : old ≤ new
  pub risen : OnErr result (HasRisen old new)
  pub stays : OnOk result (new ≡ old)
