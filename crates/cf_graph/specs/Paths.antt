-- What can be reached. This project's own.
use Rattle.std.specs.Prelude.{◌≡◌, ℕ, true, List, Contains}
use Rattle.cf_graph.specs.declared.edge.Edge.{Edge}
use Rattle.cf_graph.specs.declared.edge.Owner.TheVariants.{Slot}
use Rattle.cf_graph.specs.Owners.{is_owning}

-- a path leads to an object from a thread or a parcel: such an owner has a reference to it, or the body of an
-- object to which a path leads has one in a slot; modes and common items give no path
pub data Reaches (edges : List Edge) : ℕ → Type 0 where
  owned : (e : Edge) → Contains edges e → is_owning e.owner ≡ true → Reaches edges e.object
  inside : (e : Edge) (b : ℕ) → Contains edges e → e.owner ≡ Slot b → Reaches edges b → Reaches edges e.object
