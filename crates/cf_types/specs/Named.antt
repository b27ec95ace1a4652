-- How the registry keeps its classes, and what new names are: this project's own.
use Rattle.std.specs.Prelude.{◌≡◌, ℕ, Bool, true, not, ◌&&◌, List, [], ◌∷◌, ◌++◌, map}
use Rattle.std.specs.Global.{Global}
use Rattle.std.specs.String.{string_bytes}
use Rattle.std.specs.declared.string.String.{String}
use Rattle.cf_types.specs.declared.classes.Class.{Class}
use Rattle.cf_types.specs.Registry.{built_in, has_name}

-- each class stands at its name
abbrev pub AreNamed : List (String Global × Class) → Type 0
AreNamed entries = map (λ e. string_bytes e.0) entries ≡ map (λ e. e.1.name) entries

-- no class has one of these names, and each differs from those before it
abbrev pub are_new : List Class → List (List ℕ) → Bool
are_new classes [] = true
are_new classes (name ∷ names) = not (has_name classes name) && are_new (classes ++ built_in name ∷ []) names
