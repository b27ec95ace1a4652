-- What a statement that binds a variable finds among bodies, and the body that it makes. This project's own.
use Rattle.std.specs.Prelude.{ℕ, ◌<◌, List, [], ◌∷◌, length, Option, None, Some, if◌then◌else◌}
use Rattle.cf_ids.specs.declared.limits.TheConstants.{OBJECTS}
use Rattle.cf_contents.specs.Deeds.{Origin, nowhere, fresh, there}
use Rattle.cf_contents.specs.Stores.{Held, live, is_live_in}

-- the object that is bound: the next one, or one that is there, if it is live
abbrev pub found_in : List Held → Origin → Option ℕ
found_in bodies nowhere = None
found_in bodies (fresh ob) = Some (length bodies)
found_in bodies (there o) = if is_live_in bodies o then Some o else None

-- the body that is made, if one is
abbrev pub bodies_from : Origin → List Held
bodies_from nowhere = []
bodies_from (fresh ob) = live ob ∷ []
bodies_from (there o) = []

-- there is room for the body that is made, and one more object may be made
abbrev pub MayMake : Origin → List Held → (room : ℕ) → Type 0
MayMake nowhere bodies room = Unit {0}
MayMake (fresh ob) bodies room = (0 < room) × (length bodies < OBJECTS)
MayMake (there o) bodies room = Unit {0}
