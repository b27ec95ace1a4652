-- The references that there are, by the parts of a world: those of variables, of callouts and of owed work by where
-- threads stand, those of parcels by their rows, and those of slots by bodies. This project's own.
use Rattle.std.specs.Prelude.{◌≡◌, ℕ, ◌<◌, List, [], ◌++◌, length, map, Option, slice_index_or}
use Rattle.cf_ids.specs.declared.limits.TheConstants.{VARIABLES}
use Rattle.cf_syntax.specs.declared.script.Script.{Script}
use Rattle.cf_graph.specs.declared.edge.Edge.{Edge}
use Rattle.cf_graph.specs.Holders.{variable, callout, owed, parcel, slot}
use Rattle.cf_graph.specs.Edges.{Reference, held_by, held_if, edge_of, edges_of, weigh, one}
use Rattle.cf_contents.specs.Stores.{Held, left_in}
use Rattle.cf_next.specs.Advance.{kind_item}
use Rattle.cf_next.specs.Stands.{Frame, Stand}
use Rattle.cf_next.specs.Standing.{Standing}
use Rattle.cf_next.specs.Held.{HasVariables, below, copies, frame_at, passed_lines, variable_objects, owed_objects}
use Rattle.cf_model.specs.State.{stand_at}
use Rattle.cf_loops.specs.Following.{IsPlaceOfLoop, SamePlaces}
use Rattle.cf_world.specs.Grounds.{GroundView, HoldsParcels, Mirrors, parcel_at, state_of}

-- the references of a variable of a thread's frame, by how many are below it, as many as the lines done leave to it
abbrev pub variable_references : Script → (t depth : ℕ) → Frame → ℕ → List Reference
variable_references s t d f v = map (held_by (variable t d v)) (variable_objects (passed_lines s f) f v)

-- those of a frame: of its variables, and of its callout
abbrev pub frame_references : Script → (t depth : ℕ) → Frame → List Reference
frame_references s t d f =
    below (variable_references s t d f) VARIABLES ++ map (held_by (callout t d)) (copies (kind_item f.kind) 1)

-- those of the frame at a depth
abbrev pub depth_references : Script → ℕ → List Frame → (depth : ℕ) → List Reference
depth_references s t fs d = frame_references s t d (frame_at fs d)

-- those of all frames of a thread
abbrev pub frames_references : Script → ℕ → List Frame → List Reference
frames_references s t fs = below (depth_references s t fs) (length fs)

-- those of a thread: of its frames and of its work
abbrev pub thread_references : Script → ℕ → Stand → List Reference
thread_references s t stand =
    frames_references s t stand.frames ++ map (held_by (owed t)) (owed_objects stand.work)

-- the same by the stands of all threads
abbrev pub stand_references : Script → List Stand → ℕ → List Reference
stand_references s stands t = thread_references s t (stand_at t stands)

-- those of a place of a parcel
abbrev pub place_references : List (List (Option ℕ)) → (t k : ℕ) → List Reference
place_references rows t k = held_if (parcel t k) (parcel_at rows t k)

-- those of all places of a parcel
abbrev pub parcel_references : List (List (Option ℕ)) → ℕ → List Reference
parcel_references rows t = below (place_references rows t) (length (slice_index_or rows t []))

-- those in the slots that are left to a body
abbrev pub slot_references : List Held → ℕ → List Reference
slot_references bodies b = map (held_by (slot b)) (left_in bodies b)

-- an edge from a thread
abbrev pub thread_edge : ℕ → ℕ → Edge
thread_edge t o = edge_of (held_by (owed t) o)

-- the variables of each frame of the first threads, so many, have numbers below 256
abbrev pub AllHaveVariables : List Stand → ℕ → Type 0
AllHaveVariables stands n = (t : ℕ) → t < n → HasVariables (stand_at t stands).frames

-- the stands of threads
abbrev pub stands_of : List Standing → List Stand
stands_of frames = map (λ (f : Standing). f.stand) frames

-- edges to which those of parcels, of slots and of places of loops are added, by the rows and the bodies of a ground
pub record AddsGround (g : GroundView) (before after : List Edge) : Type 0 where
  pub rows : List (List (Option ℕ))
  pub bodies : List Held
  pub mirrors : Mirrors (state_of g).parts bodies
  pub places : HoldsParcels g.script (state_of g) rows
  pub loops : List Reference
  pub of_loops : SamePlaces (state_of g).edges loops
  pub of_no_other : (r : Reference) → (IsPlaceOfLoop r.holder → ⊥) → weigh (one r) loops ≡ 0
  pub added : after ≡ ((before ++ edges_of (below (parcel_references rows) (length rows)))
      ++ edges_of (below (slot_references bodies) (length bodies))) ++ edges_of loops
