-- What contracts see of an array, after the Collections guide.
use Rattle.std.specs.Prelude.{ℕ, List}

-- what an array is to its callers: the elements in order, as in the Collections guide, and for how many
-- more there is room before memory has to be taken
pub record Elements (E : Type 0) : Type 0 where
  pub items : List E
  pub room : ℕ
