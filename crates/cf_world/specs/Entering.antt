-- What the entries of a thread ask of the ground of a world, and what they leave. This project's own.
use Rattle.std.specs.Prelude.{◌≡◌, ℕ, ◌+◌, ◌<◌, ◌⊎◌, Bool, true, false, IsTrue, List, [], ◌∷◌, ◌++◌, length, Option, Some, None, slice_index_or, slice_set, ◌==◌, if◌then◌else◌}
use Rattle.cf_ids.specs.declared.limits.TheConstants.{OBJECTS}
use Rattle.cf_ids.specs.declared.answer.Answer.{Answer}
use Rattle.cf_ids.specs.declared.answer.Answer.TheVariants as answers
use Rattle.cf_ids.specs.declared.answer.Ended.{Ended}
use Rattle.cf_ids.specs.declared.answer.Ended.TheVariants.{More, Last}
use Rattle.cf_syntax.specs.declared.script.Script.{Script}
use Rattle.cf_syntax.specs.declared.statement.Statement.{Statement}
use Rattle.cf_syntax.specs.declared.mention.Ownership.TheVariants.{Keeps, Binds, Retains, Releases}
use Rattle.cf_syntax.specs.declared.statement.Statement.TheVariants as forms
use Rattle.cf_syntax.specs.Mentions.{ownership_of, first_of}
use Rattle.rl_turn.specs.declared.phases.Phase.TheVariants as phases
use Rattle.cf_syntax.specs.BlockLines.{begins, claims, says, packs}
use Rattle.cf_graph.specs.Flows.{gained_by}
use Rattle.cf_contents.specs.Contents.{Object, item_content}
use Rattle.cf_contents.specs.Items.{class_of}
use Rattle.cf_contents.specs.Stores.{Held, with_body, body_finalised}
use Rattle.cf_next.specs.declared.action.Action.{Action}
use Rattle.cf_next.specs.Facts.{Callout}
use Rattle.cf_next.specs.Stands.{Callee, Stand, Turn, has_run, item_of, of_run}
use Rattle.cf_next.specs.Advance.{top_kind}
use Rattle.cf_next.specs.Demands.{Demand, does, ends, returns, owes, spends, drops, calls, enters, closes}
use Rattle.cf_next.specs.Next.{used_objects, object_at}
use Rattle.cf_model.specs.declared.entry.Entry.{Entry}
use Rattle.cf_model.specs.State as states
use Rattle.cf_model.specs.State.{State, stand_at}
use Rattle.cf_model.specs.Deals.{thread_in}
use Rattle.cf_body.specs.Items.{ItemView}
use Rattle.cf_scene.specs.Needs.{HasPlaceFor, acts_on_loops}
use Rattle.cf_scene.specs.Acts.{TellsRun}
use Rattle.cf_model.specs.Steps.{Made, demanded, item_made, start_all, activity, call_answer, step_of, frames_at, bindings_of}
use Rattle.cf_model.specs.Things.{is_valid_thing, thing_at}
use Rattle.cf_model.specs.Flowing.{flow_if}
use Rattle.cf_model.specs.Journals.{Next, makes}
use Rattle.cf_world.specs.Worlds.{entry_of}
use Rattle.cf_world.specs.Grounds.{GroundView, state_of, deed_of}

-- ---- every entry

-- a thread may do this action now: it is its next one and makes no object too many, and there is room in the journal
pub record MayAct (g : GroundView) (t : ℕ) (a : Action) : Type 0 where
  pub thread : t < g.script.thread_count
  pub next : Next g.script (state_of g) t ≡ Some a
  pub few : IsTrue (makes g.script (state_of g) t) → length (state_of g).parts.objects < OBJECTS
  pub room : 0 < g.journal_room
  pub short : length g.journal < 4000000

-- a ground after the entry of a thread's next action
pub record HasEntered (t : ℕ) (a : Action) (g g' : GroundView) : Type 0 where
  pub script : g'.script ≡ g.script
  pub journal : g'.journal ≡ g.journal ++ entry_of g.script t (state_of g) a ∷ []
  pub room : g'.journal_room + 1 ≡ g.journal_room

-- what a thread demands
abbrev pub demand_in : GroundView → ℕ → Option Demand
demand_in g t = demanded g.script (state_of g) t

-- the objects to which its next entry adds references, one for each
abbrev pub gained_in : GroundView → ℕ → List ℕ
gained_in g t = gained_by (flow_if g.script t (state_of g) (demand_in g t))

-- what its next entry collects or gives out
abbrev pub listed_if : Script → ℕ → State → Option Demand → List ℕ
listed_if s t st None = []
listed_if s t st (Some d) = (step_of s t st (frames_at t st) d).list

abbrev pub listed_in : GroundView → ℕ → List ℕ
listed_in g t = listed_if g.script t (state_of g) (demand_in g t)

-- a new item as it is seen, with its info, if one is made
abbrev pub item_new : Option ℕ → Option Made → Option ItemView
item_new info None = None
item_new info (Some m) = Some (record { handler = m.handler; info = info; valid = true; item = m.item })

-- the object that an item is
abbrev pub item_body : ItemView → Object
item_body x = record { class = class_of x.item; content = item_content x.handler x.info x.valid x.item }

-- ---- what an entry is of

-- the objects that a statement of a thread uses
abbrev pub used_in : GroundView → ℕ → Statement → List (Option ℕ)
used_in g t x = used_objects (bindings_of (frames_at t (state_of g))) (says x)

-- a statement that neither binds a variable nor counts its references, and acts on no run loop; its deed is ready
pub record IsDeed (g : GroundView) (t : ℕ) : Type 0 where
  pub statement : Statement
  pub demands : demand_in g t ≡ Some (does (says statement))
  pub apart : acts_on_loops statement ≡ false
  pub keeps : ownership_of statement ≡ Keeps
  pub ready : g.ready ≡ Some (deed_of g.script (state_of g) statement (used_in g t statement))

-- a statement that binds a variable and makes no item; its deed is ready, and there is room for a body
pub record IsBinding (g : GroundView) (t : ℕ) : Type 0 where
  pub statement : Statement
  pub var : ℕ
  pub demands : demand_in g t ≡ Some (does (says statement))
  pub binds : ownership_of statement ≡ Binds var
  pub itemless : item_made statement ≡ None
  pub ready : g.ready ≡ Some (deed_of g.script (state_of g) statement (used_in g t statement))
  pub room : 0 < g.body_room

-- a statement that makes this item of a run loop; there is room for its body
pub record IsMaking (g : GroundView) (t : ℕ) (item : ItemView) : Type 0 where
  pub statement : Statement
  pub var : ℕ
  pub demands : demand_in g t ≡ Some (does (says statement))
  pub binds : ownership_of statement ≡ Binds var
  pub made : item_new (first_of (used_in g t statement)) (item_made statement) ≡ Some item
  pub room : 0 < g.body_room

-- a thread that is named, if it has a run
abbrev pub stop_named : List Stand → Option ℕ → Option ℕ
stop_named stands None = None
stop_named stands (Some u) = if has_run (stand_at u stands).frames then Some u else None

-- the thread whose run a statement of a thread stops, if it stops one
abbrev pub stops_of : (t : ℕ) → List Stand → Statement → Option ℕ
stops_of t stands (forms.Stop thread) = stop_named stands (thread_in t thread)
stops_of t stands _ = None

-- a statement over run loops of a thread, by the object of its variable and by whether the thread that it tells to stop
-- has a run; there is room in the loop that it names
pub record IsDealing (g : GroundView) (t : ℕ) (object : Option ℕ) (runs : Bool) (x : Statement) : Type 0 where
  pub demands : demand_in g t ≡ Some (does (says x))
  pub acts : acts_on_loops x ≡ true
  pub object_is : first_of (used_in g t x) ≡ object
  pub runs_is : TellsRun (state_of g) t runs x
  pub place : HasPlaceFor t g.loops x

-- a statement that retains the object of a variable
pub record IsRetain (g : GroundView) (t : ℕ) (object : Option ℕ) : Type 0 where
  pub statement : Statement
  pub var : ℕ
  pub demands : demand_in g t ≡ Some (does (says statement))
  pub retains : ownership_of statement ≡ Retains var
  pub object_is : first_of (used_in g t statement) ≡ object

-- a statement that releases the object of a variable, and that is empty
pub record IsSkip (g : GroundView) (t : ℕ) : Type 0 where
  pub statement : Statement
  pub var : ℕ
  pub demands : demand_in g t ≡ Some (does (says statement))
  pub releases : ownership_of statement ≡ Releases var
  pub empty : first_of (used_in g t statement) ≡ None

-- the release of a variable's object, or of one that the thread was given out
pub record IsRelease (g : GroundView) (t o : ℕ) : Type 0 where
  pub statement : Statement
  pub var : ℕ
  pub demands : demand_in g t ≡ Some (does (says statement))
  pub releases : ownership_of statement ≡ Releases var
  pub object : first_of (used_in g t statement) ≡ Some o

abbrev pub IsCut : GroundView → ℕ → ℕ → Type 0
IsCut g t o = IsRelease g t o ⊎ (demand_in g t ≡ Some (owes o))

-- a slot that a finalised body gives up
pub record IsDrop (g : GroundView) (t body object : ℕ) : Type 0 where
  pub place : ℕ
  pub demands : demand_in g t ≡ Some (drops body place object)

-- a place of the thread's parcel that it claims
pub record IsClaim (g : GroundView) (t place : ℕ) : Type 0 where
  pub var : ℕ
  pub demands : demand_in g t ≡ Some (does (claims place var))

-- an object that is packed for a place of a thread's parcel
pub record IsPack (g : GroundView) (t to place : ℕ) (object : Option ℕ) : Type 0 where
  pub var : Option ℕ
  pub demands : demand_in g t ≡ Some (does (packs to place var))
  pub object_is : object_at (bindings_of (frames_at t (state_of g))) var ≡ object

abbrev pub IsEnd : GroundView → ℕ → Type 0
IsEnd g t = demand_in g t ≡ Some ends

-- a demand that neither changes a part of the state nor takes a reference away: the first line of a handler, its end,
-- a phase of a run but its sleep, and the end of a run
abbrev pub IsPassing : Demand → Type 0
IsPassing (does (begins v)) = Unit {0}
IsPassing returns = Unit {0}
IsPassing (enters phases.Sleep) = ⊥
IsPassing (enters p) = Unit {0}
IsPassing closes = Unit {0}
IsPassing _ = ⊥

-- such an entry, with its answer and with what it collects
pub record IsPass (g : GroundView) (t : ℕ) (answer : Answer) (list : List ℕ) : Type 0 where
  pub demand : Demand
  pub demands : demand_in g t ≡ Some demand
  pub passes : IsPassing demand
  pub answer_is : answer ≡ (step_of g.script t (state_of g) (frames_at t (state_of g)) demand).answer
  pub list_is : list ≡ (step_of g.script t (state_of g) (frames_at t (state_of g)) demand).list

-- the call of a handler
pub record IsCall (g : GroundView) (t : ℕ) (k : Callee) : Type 0 where
  pub callout : Callout
  pub demands : demand_in g t ≡ Some (calls k callout)

-- an item that is called is valid; a receiver is no item
abbrev pub IsValidCallee : states.Parts → Callee → Type 0
IsValidCallee p k = (i : ℕ) → item_of k ≡ Some i → is_valid_thing (thing_at p i) ≡ true

-- the answer of a call in a thread's innermost frame
abbrev pub called_answer : GroundView → ℕ → Callee → Answer
called_answer g t k = call_answer k.role (activity (top_kind (frames_at t (state_of g))))

-- the sleep of a run with this deadline
pub record IsSleep (g : GroundView) (t : ℕ) (deadline : Option ℕ) : Type 0 where
  pub run : Turn
  pub demands : demand_in g t ≡ Some (enters phases.Sleep)
  pub top : top_kind (frames_at t (state_of g)) ≡ of_run run
  pub deadline_is : run.deadline ≡ deadline

-- an item that is invalidated after its handler
abbrev pub IsSpend : GroundView → ℕ → ℕ → Type 0
IsSpend g t i = demand_in g t ≡ Some (spends i)

-- ---- answers

-- the answer of an entry that takes a reference away, by what that leaves
abbrev pub answer_of_cut : Ended → ℕ → Answer
answer_of_cut More class = answers.More
answer_of_cut Last class = answers.Final class

-- bodies after a reference to an object is taken away: the object is finalised if that was the last
abbrev pub finalised_if : Ended → ℕ → List Held → List Held
finalised_if More o bodies = bodies
finalised_if Last o bodies = with_body body_finalised o bodies

-- the flags of the threads after the end of a thread's block: that of setup starts all threads
abbrev pub flags_at_end : ℕ → List states.Flags → List states.Flags
flags_at_end t flags = if t == 0 then start_all flags else flags

-- the rows of the parcels after an object is packed for a place, if there is one
abbrev pub packed_rows : List (List (Option ℕ)) → (to place : ℕ) → Option ℕ → List (List (Option ℕ))
packed_rows rows to place None = rows
packed_rows rows to place (Some o) = slice_set rows to (slice_set (slice_index_or rows to []) place (Some o))

-- the answer of an entry that needs an object: it is skipped if there is none
abbrev pub answer_for : Option ℕ → Answer
answer_for None = answers.Skip
answer_for (Some o) = answers.Ok

-- the answer of the last entry, if there is one
abbrev pub IsLastAnswer : List Entry → Option Answer → Type 0
IsLastAnswer [] answer = answer ≡ None
IsLastAnswer (e ∷ []) answer = answer ≡ Some e.answer
IsLastAnswer (e ∷ f ∷ es) answer = IsLastAnswer (f ∷ es) answer
