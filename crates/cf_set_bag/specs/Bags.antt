-- What the calls of a bag answer, by the row that a look-up before them found: the member that is there, and its
-- number. After the Collections guide; that the member that is there stays is this project's own.
use Rattle.std.specs.Prelude.{ℕ, ◌<◌, ◌≤◌, ◌==◌, List, Option, Some, None, All, if◌then◌else◌}
use Rattle.cf_basichash.specs.Members.{most_of_one}
use Rattle.cf_set_bag.specs.declared.bag.BagAdd.{BagAdd}
use Rattle.cf_set_bag.specs.declared.bag.BagAdd.TheVariants.{First, More, Full}
use Rattle.cf_set_bag.specs.declared.bag.BagRemove.{BagRemove}
use Rattle.cf_set_bag.specs.declared.bag.BagRemove.TheVariants.{Absent, Less, Gone}

-- each row has at least one, and no more than can be counted
abbrev pub AllCounted : {E : Type 0} → List (E × ℕ) → Type 0
AllCounted rows = All (λ row. (0 < row.1) × (row.1 ≤ most_of_one)) rows

-- an add of x
abbrev pub add_answer : {E : Type 0} → E → Option ℕ → BagAdd E
add_answer x None = First
add_answer x (Some n) = if n == most_of_one then Full x else More x

-- a removal: the member comes out with the last of its equals
abbrev pub remove_answer : {E : Type 0} → Option (E × ℕ) → BagRemove E
remove_answer None = Absent
remove_answer (Some row) = if row.1 == 1 then Gone row.0 else Less
