-- What leaves are to contracts: this project's own.
use Rattle.std.specs.Prelude.{ℕ, ℤ, List}

-- what an object is compared by: the units of a text, the bytes of data, a whole number, or the number of the
-- object itself
pub data FormView : Type 0 where
  text_form : List ℕ → FormView
  data_form : List ℕ → FormView
  whole_form : ℤ → FormView
  same_form : ℕ → FormView

-- the number of an object's type, and what the object is compared by
pub record LeafView : Type 0 where
  pub class : ℕ
  pub form : FormView
