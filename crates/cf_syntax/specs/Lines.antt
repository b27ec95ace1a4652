-- The lines of a text. This project's own: bytes split at LF, without the CR that ends a line.
use Rattle.std.specs.Prelude.{ℕ, ◌-◌, List, [], ◌∷◌, map, length, take, slice_index, ◌==◌, if◌then◌else◌}

-- a byte before the first of some pieces; where there is none it is a piece by itself
abbrev pub in_first : ℕ → List (List ℕ) → List (List ℕ)
in_first b [] = (b ∷ []) ∷ []
in_first b (l ∷ ls) = (b ∷ l) ∷ ls

-- the pieces between LF (10); an empty piece after the last LF is none
abbrev pub pieces : List ℕ → List (List ℕ)
pieces [] = []
pieces (b ∷ bs) = if b == 10 then [] ∷ pieces bs else in_first b (pieces bs)

-- a piece without a CR (13) at its end
abbrev pub without_return : List ℕ → List ℕ
without_return piece = if slice_index piece (length piece - 1) == 13 then take (length piece - 1) piece else piece

-- the lines of a text
abbrev pub lines : List ℕ → List (List ℕ)
lines bs = map without_return (pieces bs)
