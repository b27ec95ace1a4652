-- How a source and a sink count their faults. This word is this project's own.
use Rattle.std.specs.Prelude.{ℕ, ◌+◌, ◌-◌, ◌^◌, min, Result, Ok, Err}

-- The count after a call: one more if that failed. It stands still at the end of its type.
abbrev pub faults_after : {T E : Type 0} → Result T E → ℕ → ℕ
faults_after (Ok x) faults = faults
faults_after (Err e) faults = min (faults + 1) (2 ^ 64 - 1)
