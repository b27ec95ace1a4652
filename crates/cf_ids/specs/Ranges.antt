-- The ranges of the numbers. They are this project's own.
use Rattle.std.specs.Prelude.{◌≡◌, ℕ, ◌<◌, ◌≤◌, ◌⊎◌}
use Rattle.cf_ids.specs.declared.limits.TheConstants.{OBJECT_NUMBERS, THREADS, TYPE_NUMBERS}

-- a thread of a script, or the lead, which is 255
abbrev pub IsThread : ℕ → Type 0
IsThread n = (n < THREADS) ⊎ (n ≡ 255)

-- an object that a run makes, or a constant of a script
abbrev pub IsObjectNumber : ℕ → Type 0
IsObjectNumber n = n < OBJECT_NUMBERS

-- types are numbered from 1
abbrev pub IsTypeNumber : ℕ → Type 0
IsTypeNumber n = (0 < n) × (n ≤ TYPE_NUMBERS)
