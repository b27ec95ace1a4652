-- The loop invariants of `registry::Registry::add_built_in`.
use Rattle.std.proofs.Common.{◌≡◌, ◌++◌, true, map, take, drop}
use Rattle.cf_types.specs.Named.{are_new}
use Rattle.cf_types.specs.Registry.{built_in}
use Rattle.cf_types.proofs.registry.Registry.add_built_in.Given as goal

-- the classes of the names before the index stand after the old ones, and the names from it on are new
abbrev pub invariant-loop-name : goal.invariant-loop-name
invariant-loop-name l = (l.self ≡ l.initial.self ++ map (λ name. built_in name.now) (take l.name-index l.names))
    × (are_new l.self (map (λ name. name.now) (drop l.name-index l.names)) ≡ true)
