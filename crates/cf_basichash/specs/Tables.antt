-- What contracts see of a table of rows, after the Collections guide, and how a row is set.
use Rattle.std.specs.Prelude.{◌≡◌, ℕ, ◌+◌, ◌≤◌, Bool, List, [], ◌∷◌, ◌++◌, length, map, Option, is_some, position, if◌then◌else◌}
use Rattle.std.specs.List.{IsDistinct}
use Rattle.std.specs.Map.{keys_of, lookup, set_value}
use Rattle.cf_basichash.specs.Places.{Places}

-- what a table is to its callers: the rows, each a key and a value, for how many more there is room
-- before memory has to be taken, and the callbacks. That the rows stand in the order in which they were
-- added is this project's own: the Collections guide leaves the order open
pub record Table (K V C : Type 0) : Type 0 where
  pub rows : List (K × V)
  pub room : ℕ
  pub callbacks : C

-- the place of the first row whose key passes, if there is one
abbrev pub place_of : {K V : Type 0} → (K → Bool) → List (K × V) → Option ℕ
place_of test rows = position (λ row. test row.0) rows

-- the rows after k is given the value v, where `test` says which keys are equal to k: an equal key that is there takes
-- it, else a row is added (the reference's "set value"). That the key that is there stays, and that a row is added
-- after the last one, is this project's own
abbrev pub pairs_with : {K V : Type 0} → (K → Bool) → List (K × V) → K → V → List (K × V)
pairs_with test rows k v = if is_some (lookup test rows) then set_value test rows v else rows ++ (k, v) ∷ []

-- the hashes are those of the rows' keys, in their order
abbrev pub IsOfKeys : {K V : Type 0} → (K → ℕ) → List (K × V) → List ℕ → Type 0
IsOfKeys hash rows hashes = hashes ≡ map (λ row. hash row.0) rows

-- the rule of a table: no two of its keys are equal, and its index has the hash of each
pub record IsTable {K V : Type 0} (same : K → K → Bool) (hash : K → ℕ) (rows : List (K × V)) (index : Places)
    (capacity : ℕ) : Type 0 where
  pub distinct : IsDistinct same (keys_of rows)
  pub hashes : IsOfKeys hash rows index.hashes
  pub within : length rows + index.room ≤ capacity
