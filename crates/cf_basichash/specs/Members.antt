-- Lists of members no two of which are equal, and such lists with a number beside each member: what becomes of them
-- when a member is added, set, replaced or removed. `test` says which members are equal to the one that is meant.
-- After the sets and bags of the Collections guide. That members stand in order of insertion, and that a replaced one
-- leaves its place and its number to the new one, is this project's own.
use Rattle.std.specs.Prelude.{ℕ, ◌+◌, ◌-◌, Bool, List, [], ◌∷◌, ◌++◌, ◌==◌, Option, Some, None, is_some, if◌then◌else◌}
use Rattle.std.specs.List.{list_any}
use Rattle.std.specs.Map.{lookup, remove_entry, set_key, set_value}

-- the members with x: an equal one that is there stays, and nothing is added
abbrev pub members_with : {E : Type 0} → (E → Bool) → List E → E → List E
members_with test members x = if list_any test members then members else members ++ x ∷ []

-- the members with x in place of the one that is equal to it, if there is one
abbrev pub members_replaced : {E : Type 0} → (E → Bool) → List E → E → List E
members_replaced test [] x = []
members_replaced test (m ∷ ms) x = if test m then x ∷ ms else m ∷ members_replaced test ms x

-- the members after x is set: it stands in place of its equal, or after the last
abbrev pub members_set : {E : Type 0} → (E → Bool) → List E → E → List E
members_set test members x = if list_any test members then members_replaced test members x else members ++ x ∷ []

-- the members without the one that passes, if there is one
abbrev pub members_without : {E : Type 0} → (E → Bool) → List E → List E
members_without test [] = []
members_without test (m ∷ ms) = if test m then ms else m ∷ members_without test ms

-- the greatest number that a row of a bag can have
abbrev pub most_of_one : ℕ
most_of_one = 4294967295

-- the rows with one more of x, by the number that they have of it: the member that is there stays, and a row that has
-- the greatest number stays as it is
abbrev pub rows_with_more : {E : Type 0} → (E → Bool) → List (E × ℕ) → E → Option ℕ → List (E × ℕ)
rows_with_more test rows x None = rows ++ (x, 1) ∷ []
rows_with_more test rows x (Some n) = if n == most_of_one then rows else set_value test rows (n + 1)

-- the rows with one more of x
abbrev pub rows_with : {E : Type 0} → (E → Bool) → List (E × ℕ) → E → List (E × ℕ)
rows_with test rows x = rows_with_more test rows x (lookup test rows)

-- the rows with one less of the member that passes, by the number that they have of it: its row goes with the last
abbrev pub rows_with_less : {E : Type 0} → (E → Bool) → List (E × ℕ) → Option ℕ → List (E × ℕ)
rows_with_less test rows None = rows
rows_with_less test rows (Some n) = if n == 1 then remove_entry test rows else set_value test rows (n - 1)

-- the rows with one less of the member that passes
abbrev pub rows_without : {E : Type 0} → (E → Bool) → List (E × ℕ) → List (E × ℕ)
rows_without test rows = rows_with_less test rows (lookup test rows)

-- the rows after x is set: it stands in place of its equal with that one's number, or once after the last
abbrev pub rows_set : {E : Type 0} → (E → Bool) → List (E × ℕ) → E → List (E × ℕ)
rows_set test rows x = if is_some (lookup test rows) then set_key test rows x else rows ++ (x, 1) ∷ []
