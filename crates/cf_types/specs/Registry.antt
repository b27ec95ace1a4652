-- The types of objects. Their numbers are their places in this list, counted from 1: this project's own.
use Rattle.std.specs.Prelude.{ℕ, Bool, List, [], ◌∷◌, codes, map}
use Rattle.std.specs.List.{list_any}
use Rattle.std.specs.Str.{bytes_eq}
use Rattle.cf_types.specs.declared.classes.Class.{Class}
use Rattle.cf_types.specs.declared.classes.Equality.TheVariants.{Identity}

-- the names of the built-in types, after the CoreFoundation reference
abbrev pub built_in_names : List (List ℕ)
built_in_names =
    codes "Null" ∷ codes "Boolean" ∷ codes "String" ∷ codes "Data" ∷ codes "Number" ∷ codes "Array" ∷ codes "Dictionary"
    ∷ codes "Set" ∷ codes "Bag" ∷ codes "BinaryHeap" ∷ codes "RunLoopSource" ∷ codes "RunLoopTimer"
    ∷ codes "RunLoopObserver" ∷ []

-- a built-in type has no fields, and its class does not make objects with keys
abbrev pub built_in : List ℕ → Class
built_in name = record { name = name; fields = 0; equality = Identity }

-- the built-in types, 1 to 13
abbrev pub built_in_classes : List Class
built_in_classes = map built_in built_in_names

-- whether a class has this name
abbrev pub has_name : List Class → List ℕ → Bool
has_name classes name = list_any (λ (class : Class). bytes_eq class.name name) classes
