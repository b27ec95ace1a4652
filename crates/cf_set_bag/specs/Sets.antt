-- What a set is to its callers, after the Collections guide.
use Rattle.std.specs.Prelude.{ℕ, List}

-- the members in order of insertion, no two of them equal, for how many more there is room before memory has to be
-- taken, and the callbacks, which say what equal is
pub record Members (E C : Type 0) : Type 0 where
  pub members : List E
  pub room : ℕ
  pub callbacks : C
