-- What a spawner that refuses a start is to its callers. This project's own.
use Rattle.std.specs.Prelude.{ℕ}

-- the number of the start that each run is refused, counted from 0, and how many refusals it has counted
pub record Refusals : Type 0 where
  pub refused : ℕ
  pub counted : ℕ
