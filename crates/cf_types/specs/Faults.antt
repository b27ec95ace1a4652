-- When a class is refused: this project's own.
use Rattle.std.specs.Prelude.{◌≡◌, ℕ, nat_le, List, length, Option, None, Some, Result, Ok, Err, if◌then◌else◌}
use Rattle.cf_types.specs.declared.classes.Class.{Class}
use Rattle.cf_types.specs.declared.registry.RegisterFault.{RegisterFault}
use Rattle.cf_types.specs.declared.registry.RegisterFault.TheVariants.{Full, Taken, NoMemory}
use Rattle.cf_types.specs.Registry.{has_name}
use Rattle.cf_ids.specs.declared.limits.TheConstants.{TYPES}

-- why a class of this name may not be added, if it may not: there are 1,024 types, or the name is there
abbrev pub register_fault : List Class → List ℕ → Option RegisterFault
register_fault classes name =
    if nat_le TYPES (length classes) then Some Full else (if has_name classes name then Some Taken else None)

-- the call is refused for exactly this fault, and want of memory comes only if there is none
abbrev pub IsRefusedFor : {T : Type 0} → Result T RegisterFault → Option RegisterFault → Type 0
IsRefusedFor (Ok x) fault = fault ≡ None
IsRefusedFor (Err Full) fault = fault ≡ Some Full
IsRefusedFor (Err Taken) fault = fault ≡ Some Taken
IsRefusedFor (Err NoMemory) fault = fault ≡ None
