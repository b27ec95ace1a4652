-- A number for each object, in the order of the objects' numbers. This project's own.
use Rattle.std.specs.Prelude.{ℕ, List, replicate, slice_index_or, slice_set}

-- the number of each of so many objects is 0
abbrev pub no_numbers : ℕ → List ℕ
no_numbers objects = replicate objects 0

-- the number of an object
abbrev pub number_of : List ℕ → ℕ → ℕ
number_of numbers o = slice_index_or numbers o 0

-- the numbers, but for an object that has this one
abbrev pub with_number : List ℕ → ℕ → ℕ → List ℕ
with_number numbers o number = slice_set numbers o number
