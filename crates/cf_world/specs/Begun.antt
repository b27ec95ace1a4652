-- What the fields of a world keep whose script has begun. This project's own.
use Rattle.std.specs.Prelude.{◌≡◌, ℕ, ◌+◌, ◌<◌, ◌≤◌, List, [], ◌∷◌, length, map, Option, Some, None, Result, Ok, Err, slice_index_or, vec_capacity, cond}
use Rattle.std.specs.Option.{option_map}
use Rattle.cf_ids.specs.declared.answer.Answer.{Answer}
use Rattle.cf_ids.specs.declared.answer.Answer.TheVariants as answers
use Rattle.cf_ids.specs.declared.answer.Ended.{Ended}
use Rattle.cf_ids.specs.declared.answer.Ended.TheVariants.{More, Last}
use Rattle.cf_syntax.specs.declared.script.Script.{Script}
use Rattle.cf_syntax.specs.declared.statement.Statement.{Statement}
use Rattle.rl_turn.specs.declared.phases.Phase.{Phase}
use Rattle.rl_turn.specs.declared.phases.Phase.TheVariants as phases
use Rattle.cf_next.specs.Stands.{Stand, Turn}
use Rattle.cf_next.specs.Standing.{Standing, HasRoomFor, finals_in, innermost_run, is_retain}
use Rattle.cf_next.specs.declared.parts.Callee.{Callee as CodeCallee}
use Rattle.cf_next.specs.declared.object.MaybeObject.{MaybeObject}
use Rattle.cf_next.specs.Advance.{advanced}
use Rattle.cf_next.specs.Steps.{demand_of, step_cut}
use Rattle.cf_next.specs.declared.step.Step.{Step}
use Rattle.cf_next.specs.declared.action.Action.{Action}
use Rattle.cf_next.specs.Views.{objects_of}
use Rattle.cf_model.specs.State.{State, blank, stand_at, with_stand}
use Rattle.cf_model.specs.Known.{facts_of}
use Rattle.cf_model.specs.Steps.{result_answer}
use Rattle.cf_model.specs.Things.{collected_of, items_in}
use Rattle.cf_scene.specs.Dealing.{spending}
use Rattle.cf_scene.specs.Needs.{MovesAtMost}
use Rattle.cf_world.specs.Worlds.{WorldView, next_of}
use Rattle.cf_world.specs.Grounds.{GroundView, MayRun, PlaceIf, ReadyIf, state_of, statement_at}
use Rattle.cf_world.specs.Entering.{HasEntered, MayAct}
use Rattle.cf_world.specs.Kept.{IsKept}
use Rattle.cf_world.specs.declared.next.Next.{Next as NextCode}
use Rattle.cf_world.specs.declared.next.Next.TheVariants as nexts
use Rattle.cf_world.specs.declared.next.Halt.{Halt}
use Rattle.cf_world.specs.declared.next.Halt.TheVariants as halts
use Rattle.cf_world.specs.declared.found.Found.{Found}
use Rattle.cf_world.specs.declared.found.Found.TheVariants as kept
use Rattle.cf_world.specs.declared.found.Reserved.{Reserved}
use Rattle.cf_world.specs.declared.begun.Begun.TheInside.{Inside}

-- the thread for which room was made
abbrev pub thread_of : Reserved → ℕ
thread_of r = r.thread

-- what was found when room was made, if there is still room for that
abbrev pub reserved_of : Inside → Option Reserved
reserved_of w = cond w.has_room (Some w.reserved) None

-- what callers see of a world whose script has begun
abbrev pub view_of : Inside → WorldView
view_of w = record {
  script = Some w.ground.script;
  limit = w.limit;
  journal = w.ground.journal;
  gained = w.gained.items;
  room = option_map thread_of (reserved_of w);
}

-- the ground is ready for what a thread does
abbrev pub IsReadyFor : GroundView → (t : ℕ) → Found → Type 0
IsReadyFor g t (kept.Says b n used) = ReadyIf g (statement_at g.script b n) (objects_of used)
IsReadyFor g t (kept.Deals b n used) = PlaceIf g t (statement_at g.script b n)
IsReadyFor g t _ = Unit {0}

-- what was found is what its thread does next, and it may do it
pub record IsFound (g : GroundView) (r : Reserved) : Type 0 where
  pub runs : MayRun g.script
  pub kept : IsKept g.script (facts_of (state_of g)) r.thread (stand_at r.thread (state_of g).stands) r.found
  pub acts : MayAct g r.thread r.action

-- how many numbers the entry of an action lists at most
abbrev pub most_listed : Action → ℕ
most_listed a = cond (is_retain a) 0 2

-- where a thread stands among all; one that is not there stands nowhere
abbrev pub nobody : Standing
nobody = record {
  thread = 0;
  stand = blank;
  frame_room = 0;
  binding_room = 0;
  callee_room = 0;
  work_room = 0;
}

abbrev pub standing_at : List Standing → ℕ → Standing
standing_at frames t = slice_index_or frames t nobody

-- the same, with room for it
pub record IsReserved (g : GroundView) (frames : List Standing) (r : Reserved) : Type 0 where
  pub found : IsFound g r
  pub room : HasRoomFor r.action (most_listed r.action) (standing_at frames r.thread)
  pub ready : IsReadyFor g r.thread r.found

abbrev pub ReservedIf : GroundView → List Standing → Option Reserved → Type 0
ReservedIf g frames None = Unit {0}
ReservedIf g frames (Some r) = IsReserved g frames r

-- the threads of a script stand so
pub record StandSo (s : Script) (stands : List Stand) (frames : List Standing) : Type 0 where
  pub count : length frames ≡ s.thread_count
  pub thread : (t : ℕ) → t < s.thread_count → (standing_at frames t).thread ≡ t
  pub stand : map (λ (f : Standing). f.stand) frames ≡ stands

-- where the threads stand
abbrev pub AreFrames : Script → State → List Standing → Type 0
AreFrames s st frames = StandSo s st.stands frames

-- one of them has moved to another stand
abbrev pub HasMoved : Script → List Stand → ℕ → Stand → List Standing → Type 0
HasMoved s stands t stand frames = StandSo s (with_stand t stand stands) frames

-- a thread has moved by a step that is no statement, with its answer and what it collected
abbrev pub MovesBy : GroundView → ℕ → Answer → List ℕ → List Standing → Step → Type 0
MovesBy g t answer list frames x =
    let st = state_of g in
    HasMoved g.script st.stands t
    (advanced (facts_of st) t (demand_of x) answer (finals_in (step_cut x) answer) list (stand_at t st.stands)) frames

-- a world has gone on by an entry of a thread
pub record HasGone (r : Reserved) (g g' : GroundView) (standings : List Standing) : Type 0 where
  pub entered : HasEntered r.thread r.action g g'
  pub frames : AreFrames g'.script (state_of g') standings

-- what was found is a statement that acts on no run loop
abbrev pub IsSays : Found → Type 0
IsSays (kept.Says b n used) = Unit {0}
IsSays _ = ⊥

-- what was found is a statement over run loops
abbrev pub IsDeals : Found → Type 0
IsDeals (kept.Deals b n used) = Unit {0}
IsDeals _ = ⊥

-- what was found is the claim of this place
abbrev pub IsClaims : Found → ℕ → Type 0
IsClaims (kept.Claims k v) place = k ≡ place
IsClaims _ place = ⊥

-- what was found is the release of this object, which the thread was given out
abbrev pub IsOwes : Found → ℕ → Type 0
IsOwes (kept.Owes o left) object = o ≡ object
IsOwes _ object = ⊥

-- what was found is an object to be packed
abbrev pub IsPacks : Found → Type 0
IsPacks (kept.Packs u k v) = Unit {0}
IsPacks _ = ⊥

-- what was found is a slot that a finalised body gives up
abbrev pub IsDrops : Found → Type 0
IsDrops (kept.Drops b k o left) = Unit {0}
IsDrops _ = ⊥

-- what was found is no line that a block writes, no end of a thread's block, and takes no reference away
abbrev pub IsRoundFound : Found → Type 0
IsRoundFound (kept.Claims k v) = ⊥
IsRoundFound (kept.Says b n used) = ⊥
IsRoundFound (kept.Deals b n used) = ⊥
IsRoundFound (kept.Packs u k v) = ⊥
IsRoundFound kept.Ends = ⊥
IsRoundFound (kept.Owes o left) = ⊥
IsRoundFound (kept.Drops b k o left) = ⊥
IsRoundFound _ = Unit {0}

-- what was found is the first line of a handler, its end, or the end of a run
abbrev pub IsStillFound : Found → Type 0
IsStillFound kept.Begins = Unit {0}
IsStillFound kept.Returns = Unit {0}
IsStillFound kept.Closes = Unit {0}
IsStillFound _ = ⊥

-- its answer: the end of a run tells its result
abbrev pub still_answer : Found → Option ℕ → Answer
still_answer kept.Closes n = result_answer n
still_answer _ n = answers.Ok

-- what was found is the call of this one with this info
abbrev pub IsCallOf : Found → CodeCallee → MaybeObject → Type 0
IsCallOf (kept.Calls k h o left) callee info = (k ≡ callee) × (o ≡ info)
IsCallOf _ callee info = ⊥

-- what was found is this item to be invalidated
abbrev pub IsSpends : Found → ℕ → Type 0
IsSpends (kept.Spends i left) item = i ≡ item
IsSpends _ item = ⊥

-- ---- what an entry lists where that may be many

-- so many are as many as the items of the mode of a run, if there is one
abbrev pub FitsItems : State → ℕ → ℕ → Option Turn → Type 0
FitsItems st t more None = Unit {0}
FitsItems st t more (Some r) = length (items_in st t r.mode) ≤ more

-- the sources of that mode that are to be called
abbrev pub sources_of_run : State → ℕ → Option Turn → List ℕ
sources_of_run st t None = []
sources_of_run st t (Some r) = collected_of st.parts phases.Sources (items_in st t r.mode)

-- the same of what a phase of a run collects, as long as that of sources alone collects anything
abbrev pub FitsPhase : State → ℕ → ℕ → Phase → Option Turn → Type 0
FitsPhase st t more phases.Sources run = FitsItems st t more run
FitsPhase st t more _ run = Unit {0}

-- a statement over run loops moves so many references at most, if there is a statement
abbrev pub MovesIf : GroundView → (t : ℕ) → List (Option ℕ) → (more : ℕ) → Option Statement → Type 0
MovesIf g t used more None = Unit {0}
MovesIf g t used more (Some x) = MovesAtMost g.script t (state_of g) x used more

-- so many are as many as it lists at most, and as it gains where that may be more than two
abbrev pub AreMost : GroundView → ℕ → ℕ → Found → Type 0
AreMost g t more (kept.Enters p) =
    FitsPhase (state_of g) t more p (innermost_run (stand_at t (state_of g).stands).frames)
AreMost g t more (kept.Deals b n used) = MovesIf g t (objects_of used) more (statement_at g.script b n)
AreMost g t more (kept.Spends i left) = length (spending g.script (state_of g) i).leaves ≤ more
AreMost g t more _ = Unit {0}

-- there is room for what it lists, in its thread's frames and in lists
pub record HasLists (g : GroundView) (frames : List Standing) (gained_room list_room : ℕ) (r : Reserved) : Type 0 where
  pub more : ℕ
  pub room : HasRoomFor r.action more (standing_at frames r.thread)
  pub gained_fits : more ≤ gained_room
  pub list_fits : more ≤ list_room
  pub most : AreMost g r.thread more r.found

-- the same of what was reserved, if something was
abbrev pub ListsFit : GroundView → List Standing → (gained_room list_room : ℕ) → Option Reserved → Type 0
ListsFit g frames m n None = Unit {0}
ListsFit g frames m n (Some r) = HasLists g frames m n r

-- what was finalised, by what a cut leaves
abbrev pub finals_of_cut : Ended → ℕ → List ℕ
finals_of_cut More o = []
finals_of_cut Last o = o ∷ []

-- what the fields of a world keep whose script has begun
pub record IsBegun (w : Inside) : Type 0 where
  pub frames : AreFrames w.ground.script (state_of w.ground) w.frames.items
  pub within : length w.ground.journal ≤ w.limit
  pub most : w.limit ≤ 4000000
  pub room : w.limit ≤ length w.ground.journal + w.ground.journal_room
  pub gained_room : 2 ≤ vec_capacity w.gained
  pub list_room : 2 ≤ vec_capacity w.list
  pub reserved : ReservedIf w.ground w.frames.items (reserved_of w)
  pub lists : ListsFit w.ground w.frames.items (vec_capacity w.gained) (vec_capacity w.list) (reserved_of w)

-- why a thread does nothing, as callers see it
abbrev pub halted : Halt → NextCode
halted halts.Asleep = nexts.Asleep
halted halts.Waiting = nexts.Waiting
halted halts.Done = nexts.Done
halted halts.Limit = nexts.Limit
halted halts.Full = nexts.Full

-- what a look at a thread finds: what it does next, which is kept, if it may do it, or why it may do nothing
abbrev pub IsLooked : GroundView → (limit t : ℕ) → Result (Unit {0}) Halt → Reserved → Type 0
IsLooked g limit t (Ok u) r = IsFound g r × (r.thread ≡ t) × (next_of g.script limit g.journal t ≡ nexts.Act r.action)
IsLooked g limit t (Err h) r = halted h ≡ next_of g.script limit g.journal t
