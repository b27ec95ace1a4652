-- What contracts see of rows on top of one another: the rows, the topmost first. This project's own.
use Rattle.std.specs.Prelude.{ℕ, ◌≤◌, List, [], ◌∷◌, drop, take, length, ◌==◌, if◌then◌else◌}

-- the rows, for how many more there is room, and for how many more cells
pub record Grid (A : Type 0) : Type 0 where
  pub rows : List (List A)
  pub row_room : ℕ
  pub cell_room : ℕ

-- the topmost row, and what is done to it
abbrev pub top_row : {A : Type 0} → List (List A) → List A
top_row [] = []
top_row (r ∷ rs) = r

abbrev pub on_top_row : {A : Type 0} → (List A → List A) → List (List A) → List (List A)
on_top_row f [] = []
on_top_row f (r ∷ rs) = f r ∷ rs

-- of a list whose first element is on top, the element that so many others are below, or the default if there is none
abbrev pub at_depth : {A : Type 0} → A → List A → (depth : ℕ) → A
at_depth a [] d = a
at_depth a (x ∷ xs) d = if length xs == d then x else at_depth a xs d

-- cells one after another, cut where the rows begin, the topmost first
abbrev pub rows_of : {A : Type 0} → (starts : List ℕ) → List A → List (List A)
rows_of [] cells = []
rows_of (s ∷ ss) cells = drop s cells ∷ rows_of ss (take s cells)

abbrev pub AreNested : {A : Type 0} → (starts : List ℕ) → List A → Type 0
AreNested [] cells = Unit {0}
AreNested (s ∷ ss) cells = (s ≤ length cells) × AreNested ss (take s cells)
