-- The body through which an action may use an object, as an owner.
use Rattle.std.specs.Prelude.{ℕ, List, [], ◌∷◌, Option, Some, None}
use Rattle.cf_graph.specs.declared.edge.Owner.{Owner}
use Rattle.cf_graph.specs.declared.edge.Owner.TheVariants.{Slot}

-- the body through which an action may use an object, as an owner
abbrev pub owners_by : Option ℕ → List Owner
owners_by None = []
owners_by (Some b) = Slot b ∷ []
