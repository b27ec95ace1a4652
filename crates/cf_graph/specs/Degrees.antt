-- Which references count for an object. This project's own.
use Rattle.std.specs.Prelude.{ℕ, Bool, ◌&&◌, not, ◌==◌}
use Rattle.cf_graph.specs.declared.edge.Edge.{Edge}
use Rattle.cf_graph.specs.Owners.{is_owning}

-- the reference leads to the object
abbrev pub leads_to : ℕ → Edge → Bool
leads_to o e = e.object == o

-- the reference leads to the object from a thread or a parcel
abbrev pub owns : ℕ → Edge → Bool
owns o e = leads_to o e && is_owning e.owner

-- the reference leads to the object from elsewhere
abbrev pub holds : ℕ → Edge → Bool
holds o e = leads_to o e && not (is_owning e.owner)
