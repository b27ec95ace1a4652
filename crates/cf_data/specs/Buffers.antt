-- What contracts see of growing bytes, after the CFMutableData reference.
use Rattle.std.specs.Prelude.{ℕ, List}

-- what growing bytes are to their callers: the bytes in order, and for how many more there is room
-- before memory has to be taken
pub record Buffer : Type 0 where
  pub items : List ℕ
  pub room : ℕ
