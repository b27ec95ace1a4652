-- What the pairs of a dictionary are to the store.
use Rattle.std.specs.Prelude.{ℕ, Bool, List}
use Rattle.cf_types.specs.declared.cells.Cell.{Cell}

-- whether they are plain, each key with the number of its value, and how many more come in without memory
pub record PairsView : Type 0 where
  pub plain : Bool
  pub items : List (Cell × ℕ)
  pub room : ℕ

-- a row as a pair: of the value only its number counts
abbrev pub pair_in : Cell × Cell → Cell × ℕ
pair_in row = (row.0, row.1.id)

-- the numbers of a pair
abbrev pub numbers_in : Cell × ℕ → ℕ × ℕ
numbers_in pair = (pair.0.id, pair.1)
