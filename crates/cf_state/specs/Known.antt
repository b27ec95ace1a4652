-- Items of the program, and the facts that parts and references tell.
use Rattle.std.specs.Prelude.{ℕ, List, [], Option, Some, None, slice_get}
use Rattle.cf_graph.specs.Edges.{Reference}
use Rattle.cf_next.specs.Facts.{Facts}
use Rattle.cf_plain.specs.Views.{item_of}
use Rattle.cf_model.specs.State.{Parts, State}
use Rattle.cf_model.specs.Things as things
use Rattle.cf_model.specs.Known.{facts_of}
use Rattle.cf_state.specs.declared.thing.Thing.{Thing}

-- an item with its handler, its info, and whether it is valid
abbrev pub thing_view : Thing → things.Thing
thing_view x = record { handler = x.handler; info = x.info; valid = x.valid; item = item_of x.item }

-- a state of which no thread's stand is looked at
abbrev pub bare : Parts → List Reference → State
bare parts edges = record { parts = parts; edges = edges; stands = [] }

-- the facts that parts and references tell
abbrev pub facts_in : Parts → List Reference → Facts
facts_in parts edges = facts_of (bare parts edges)
