-- The words between two blanks, which are one or none.
use Rattle.std.specs.Prelude.{ℕ, List, [], ◌∷◌}

-- plain bytes as the words that they are
abbrev pub whole : List ℕ → List (List ℕ)
whole [] = []
whole (b ∷ bs) = (b ∷ bs) ∷ []
