-- How contracts see the numbers of references. This project's own.
use Rattle.std.specs.Prelude.{ℕ, List}

-- for each object that was made, how many references lead to it, and for how many more there is room
pub record NumbersView : Type 0 where
  pub items : List ℕ
  pub room : ℕ
