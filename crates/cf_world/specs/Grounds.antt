-- The ground of a world: what it keeps beside where its threads stand. This project's own.
use Rattle.std.specs.Prelude.{◌≡◌, ℕ, ◌-◌, ◌<◌, ◌≤◌, List, [], length, map, Option, None, Some, slice_get, slice_index_or, vec_len, vec_capacity}
use Rattle.cf_ids.specs.declared.answer.Ended.{Ended}
use Rattle.cf_syntax.specs.declared.script.Script.{Script}
use Rattle.cf_syntax.specs.declared.statement.Statement.{Statement}
use Rattle.cf_syntax.specs.declared.mention.Ownership.{Ownership}
use Rattle.cf_syntax.specs.declared.mention.Ownership.TheVariants.{Keeps, Binds, Retains, Releases}
use Rattle.cf_syntax.specs.Mentions.{ownership_of}
use Rattle.cf_syntax.specs.BlockLines.{uses_in, thread_block, statements_in}
use Rattle.cf_syntax.specs.Owned.{Owned}
use Rattle.cf_syntax.specs.Stage.{IsOfStage}
use Rattle.cf_graph.specs.Holders.{parcel}
use Rattle.cf_graph.specs.Edges.{degree}
use Rattle.cf_contents.specs.Deeds.{deed_at, first_of}
use Rattle.cf_contents.specs.Stores.{Held, Ready}
use Rattle.cf_next.specs.Facts.{Facts}
use Rattle.cf_syntax.specs.Numbered.{IsNumbered}
use Rattle.rl_modes.specs.Loops.{Loop}
use Rattle.cf_loops.specs.Following.{AreLoops}
use Rattle.cf_model.specs.declared.entry.Entry.{Entry}
use Rattle.cf_model.specs.State.{State, first_held, start}
use Rattle.cf_model.specs.Known.{facts_of}
use Rattle.cf_model.specs.Journals.{After, IsLegal}
use Rattle.cf_scene.specs.declared.flags.Flags.{Flags}
use Rattle.cf_scene.specs.Needs.{HasPlaceFor}
pub use Rattle.cf_scene.specs.Scenes.{Mirrors, sleeping_of, flags_of}
use Rattle.cf_world.specs.declared.ground.Ground.TheInside.{Inside}
use Rattle.cf_world.specs.Worlds.{ended_at}

-- what a ground is to its callers: its script and its journal, how many more entries there is room for, the deed that is
-- ready, for how many more bodies there is room, and the loops with their room. What it knows is the state after the
-- journal
pub record GroundView : Type 0 where
  pub script : Script
  pub journal : List Entry
  pub journal_room : ℕ
  pub ready : Option Ready
  pub body_room : ℕ
  pub loops : List Loop

-- the state after its journal
abbrev pub state_of : GroundView → State
state_of g = After g.script g.journal

-- ---- how its parts follow the state

-- the place of a parcel, by the rows of all parcels
abbrev pub parcel_at : List (List (Option ℕ)) → (t k : ℕ) → Option ℕ
parcel_at rows t k = slice_index_or (slice_index_or rows t []) k None

-- there is a row for each thread, with a place for each word after its `uses`
pub record HasPlaces (s : Script) (rows : List (List (Option ℕ))) : Type 0 where
  pub threads : length rows ≡ s.thread_count
  pub places : (t : ℕ) → t < s.thread_count → length (slice_index_or rows t []) ≡ length (uses_in (thread_block s t))

-- the parcels have what their places hold
pub record HoldsParcels (s : Script) (st : State) (rows : List (List (Option ℕ))) : Type 0 where
  pub has : HasPlaces s rows
  pub at : (t k : ℕ) → parcel_at rows t k ≡ first_held (parcel t k) st.edges

-- the flags of the threads of a script at its start
abbrev pub AreFirst : Script → List Flags → Type 0
AreFirst s flags = map flags_of flags ≡ (start s).parts.flags

-- the loops are those of a state, in which nothing is registered
pub record HasLoops (s : Script) (st : State) (loops : List Loop) : Type 0 where
  pub loops_are : AreLoops s st.parts st.edges loops
  pub unregistered : st.parts.registrations ≡ []

-- the parts follow a state
pub record Follows (s : Script) (st : State) (bodies : List Held) (parcels : List (List (Option ℕ)))
    (flags : List Flags) (time : ℕ) (loops : List Loop) : Type 0 where
  pub mirrors : Mirrors st.parts bodies
  pub parcels_are : HoldsParcels s st parcels
  pub flags_are : map flags_of flags ≡ st.parts.flags
  pub time_is : time ≡ st.parts.time
  pub has_loops : HasLoops s st loops

-- a script that may run: it is owned, its forms are those of today, and its numbers fit
pub record MayRun (s : Script) : Type 0 where
  pub owned : Owned s
  pub stage : IsOfStage s
  pub numbered : IsNumbered s

-- the facts of a ground are those of the state after its journal
abbrev pub known : GroundView → Facts
known g = facts_of (state_of g)

-- what the fields of a ground keep
pub record IsGround (g : Inside) : Type 0 where
  pub script : MayRun g.script
  pub legal : IsLegal g.script g.journal.items
  pub short : length g.journal.items ≤ 4000000
  pub follows : Follows g.script (After g.script g.journal.items) g.store.bodies g.parcels g.flags.items g.time
      g.loops

-- what callers see of a ground
abbrev pub view_of : Inside → GroundView
view_of g = record {
  script = g.script;
  journal = g.journal.items;
  journal_room = vec_capacity g.journal - vec_len g.journal;
  ready = g.store.ready;
  body_room = g.store.room;
  loops = g.loops;
}

-- the deed of a statement in a state, on the first object that it uses
abbrev pub deed_of : Script → State → Statement → List (Option ℕ) → Ready
deed_of s st x used = record { object = first_of used; deed = deed_at s.classes st.parts.objects x used }

-- what a release of a reference to an object leaves
abbrev pub ends_in : GroundView → ℕ → Ended → Type 0
ends_in g o ended = ended ≡ ended_at (degree o (state_of g).edges)

-- the statement with a number in a block
abbrev pub statement_at : Script → (block number : ℕ) → Option Statement
statement_at s b n = slice_get (statements_in (slice_get s.blocks b)) n

-- ---- what it is ready for

-- a statement's deed is ready where it has one: where it binds a variable, or keeps the counts as they are
abbrev pub NeedsDeed : Ownership → Type 0 → Type 0
NeedsDeed Keeps p = p
NeedsDeed (Binds v) p = p
NeedsDeed (Retains v) p = Unit {0}
NeedsDeed (Releases v) p = Unit {0}

-- the deed of a statement is ready, and there is room for a body
pub record IsReady (g : GroundView) (x : Statement) (used : List (Option ℕ)) : Type 0 where
  pub deed : g.ready ≡ Some (deed_of g.script (state_of g) x used)
  pub room : 0 < g.body_room

-- so it is, if there is a statement
abbrev pub ReadyIf : GroundView → Option Statement → List (Option ℕ) → Type 0
ReadyIf g None used = Unit {0}
ReadyIf g (Some x) used = NeedsDeed (ownership_of x) (IsReady g x used)

-- there is room in the loop that a statement names, if there is a statement
abbrev pub PlaceIf : GroundView → (t : ℕ) → Option Statement → Type 0
PlaceIf g t None = Unit {0}
PlaceIf g t (Some x) = HasPlaceFor t g.loops x
