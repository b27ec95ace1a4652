-- The references that modes and common items have, by the loops. This project's own.
use Rattle.std.specs.Prelude.{◌≡◌, ℕ, ◌++◌, List, map}
use Rattle.cf_ids.specs.declared.limits.TheConstants.{MODES}
use Rattle.cf_ids.specs.declared.numbers.Item.{Item}
use Rattle.rl_base.specs.declared.places.Place.{Place}
use Rattle.rl_base.specs.declared.places.Place.TheVariants.{Common, Mode}
use Rattle.rl_modes.specs.Loops.{Holding, Loop, items_at}
use Rattle.cf_graph.specs.declared.edge.Edge.{Edge}
use Rattle.cf_graph.specs.Edges.{Reference, held_by, weigh, one, edge_of, edges_of}
use Rattle.cf_next.specs.Held.{below}
use Rattle.cf_model.specs.Deals.{holder_at}
use Rattle.cf_loops.specs.Following.{IsPlaceOfLoop, SamePlaces, loop_at}

-- the references of a thread's loop, one for each of these holdings
abbrev pub references_of : ℕ → List Holding → List Reference
references_of t hs = map (λ h. held_by (holder_at t h.place) h.item.id) hs

-- an edge from a place of a thread's loop to an item
abbrev pub edge_from : ℕ → Place → Item → Edge
edge_from t q i = edge_of (held_by (holder_at t q) i.id)

-- the edges of a place of a thread's loop, by what the loop holds
abbrev pub place_edges : ℕ → List Holding → Place → List Edge
place_edges t held q = map (edge_from t q) (items_at q held)

-- those of its modes
abbrev pub mode_edges : ℕ → List Holding → ℕ → List Edge
mode_edges t held m = place_edges t held (Mode m)

-- those of the loop: of its common items first, then of each mode
abbrev pub loop_edges : ℕ → List Holding → List Edge
loop_edges t held = place_edges t held Common ++ below (mode_edges t held) MODES

-- those of the loop of a thread
abbrev pub thread_edges : List Loop → ℕ → List Edge
thread_edges loops t = loop_edges t (loop_at t loops).held

-- edges to which those of loops are added: of each place as many as there are, and no others
pub record AddsLoops (es : List Reference) (before after : List Edge) : Type 0 where
  pub references : List Reference
  pub added : after ≡ before ++ edges_of references
  pub of_places : SamePlaces es references
  pub of_no_other : (r : Reference) → (IsPlaceOfLoop r.holder → ⊥) → weigh (one r) references ≡ 0
