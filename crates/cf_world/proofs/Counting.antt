-- What an entry tells its ground: its answer, what it gains, and what the parts are after it; and the same of entries
-- that retain, that are skipped, and that end a block.
use Rattle.std.proofs.Common.{◌≡◌, ℕ, ◌∙◌, Bool, true, false, cond, List, [], ◌∷◌, ◌++◌, map, Option, Some, None, refl, sym, ap}
use Rattle.std.specs.Prelude.{vec_capacity, ◌==◌}
use Rattle.cf_ids.specs.declared.answer.Answer.{Answer}
use Rattle.cf_ids.specs.declared.answer.Answer.TheVariants as answers
use Rattle.rl_modes.specs.Loops.{Loop}
use Rattle.cf_syntax.specs.declared.script.Script.{Script}
use Rattle.cf_syntax.specs.declared.statement.Statement.{Statement}
use Rattle.cf_syntax.specs.declared.mention.Ownership.{Ownership}
use Rattle.cf_syntax.specs.declared.mention.Ownership.TheVariants.{Retains, Releases}
use Rattle.cf_syntax.specs.Mentions.{ownership_of, first_of}
use Rattle.cf_syntax.specs.BlockLines.{says}
use Rattle.cf_graph.specs.Holders.{Holder, variable, parcel}
use Rattle.cf_graph.specs.Edges.{Reference, held_by}
use Rattle.cf_graph.specs.Flows.{Move, grows, flowed, gained_by}
use Rattle.cf_contents.specs.Contents.{present}
use Rattle.cf_contents.specs.Stores.{Held}
use Rattle.cf_next.specs.declared.action.Action.{Action}
use Rattle.cf_next.specs.Demands.{Demand, does, ends}
use Rattle.cf_next.specs.Next.{used_objects}
use Rattle.cf_model.specs.State as states
use Rattle.cf_model.specs.State.{State, Parts, first_held}
use Rattle.cf_model.specs.Steps.{Step, idle, flowing, retain_step, release_step, end_step, start_all, step_of, step_answer, frames_at, bindings_of, depth_of, demanded, done_by, answer_if, statement_step}
use Rattle.cf_model.specs.Flowing.{flow_if}
use Rattle.cf_model.specs.Journals.{After}
use Rattle.cf_model.proofs.FirstHeld.{PassesBy, first_flowed}
use Rattle.cf_scene.specs.declared.flags.Flags.{Flags}
use Rattle.cf_world.specs.declared.ground.Ground.TheInside.{Inside}
use Rattle.cf_world.specs.Worlds.{entry_of}
use Rattle.cf_world.specs.Grounds.{Mirrors, parcel_at, HasPlaces, Follows, flags_of, IsGround, view_of}
use Rattle.cf_loops.specs.Following.{DemandLeavesLoops}
use Rattle.cf_world.specs.Entering.{MayAct, HasEntered, answer_for}
use Rattle.cf_world.proofs.Growing.{ground_after, has_entered, follows_step}
use Rattle.cf_world.proofs.Passing.{KeepsLoops, retains_leave, releases_leave}

-- ---- what an entry tells

-- the answer of a thread's next entry, what it gains, and parts that follow the state after it
pub record Enters (s : Script) (t : ℕ) (st : State) (x : Answer) (gained : List ℕ) (bodies : List Held) (rows : List (List (Option ℕ))) (flags : List Flags) (time : ℕ) (loops : List Loop) : Type 0 where
  pub demand : Demand
  pub demands : demanded s st t ≡ Some demand
  pub answer_is : x ≡ answer_if s t st (demanded s st t)
  pub gains : gained_by (flow_if s t st (demanded s st t)) ≡ gained
  pub follows : Follows s (done_by s t st demand) bodies rows flags time loops

-- what it tells, by its step
pub enters_by : (s : Script) (t : ℕ) (st : State) (d : Demand) (step : Step) (x : Answer) (bodies : List Held)
    (rows : List (List (Option ℕ))) (flags : List Flags) (time : ℕ) (loops : List Loop)
    → demanded s st t ≡ Some d → step_of s t st (frames_at t st) d ≡ step → step_answer step st ≡ x → Follows s (done_by s t st d) bodies rows flags time loops
    → Enters s t st x (gained_by step.flow) bodies rows flags time loops
enters_by s t st d step x bodies rows flags time loops e is told follows = record {
  demand = d;
  demands = e;
  answer_is = sym (ap (answer_if s t st) e ∙ ap (λ (y : Step). step_answer y st) is ∙ told);
  gains = ap (λ (o : Option Demand). gained_by (flow_if s t st o)) e ∙ ap (λ (y : Step). gained_by y.flow) is;
  follows = follows;
}

-- so the fields with the entry are a ground again, and callers see the entry
module _ (g : Inside) (t : ℕ) (a : Action) (inv : IsGround g) (acts : MayAct (view_of g) t a) (x : Answer) (gained : List ℕ) (g' : Inside)
    (e : Enters g.script t (After g.script g.journal.items) x gained g'.store.bodies g'.parcels g'.flags.items g'.time g'.loops)
    (y : Answer) (told : y ≡ x) (same : g'.script ≡ g.script) (grown : g'.journal.items ≡ g.journal.items ++ record { thread = t; action = a; answer = y } ∷ []) where
  long : g'.journal.items ≡ g.journal.items ++ entry_of g.script t (After g.script g.journal.items) a ∷ []
  long = grown ∙ ap (λ (z : Answer). g.journal.items ++ record { thread = t; action = a; answer = z } ∷ []) (told ∙ e.answer_is)

  pub entered_ground : IsGround g'
  entered_ground = ground_after g t a e.demand inv acts e.demands g' same long e.follows

  pub entered_view : vec_capacity g'.journal ≡ vec_capacity g.journal → HasEntered t a (view_of g) (view_of g')
  entered_view room = has_entered g g' t a acts same long room

-- the flags of a thread that is started
abbrev pub started : states.Flags → states.Flags
started f = record f { is_started = true }

-- ---- entries that grow references

module _ (s : Script) (t : ℕ) (st : State) (bodies : List Held) (rows : List (List (Option ℕ))) (flags : List Flags) (time : ℕ) (loops : List Loop) (h : Follows s st bodies rows flags time loops) (keeps : KeepsLoops s t st loops) where
  same_mirrors : Mirrors (record st.parts { finalised = [] ++ st.parts.finalised }) bodies
  same_mirrors = record { objects_are = h.mirrors.objects_are; live = h.mirrors.live; given_up = h.mirrors.given_up }

  -- references enter and move, and the rows of the parcels follow
  pub grows_follows : (d : Demand) (x : Answer) (enters : List Reference) (moves : List Move)
      (rows' : List (List (Option ℕ)))
      → demanded s st t ≡ Some d → DemandLeavesLoops d
      → step_of s t st (frames_at t st) d ≡ flowing st x (grows enters moves) → HasPlaces s rows'
      → ((u k : ℕ) → parcel_at rows' u k ≡ first_held (parcel u k) (flowed (grows enters moves) st.edges)) → Follows s (done_by s t st d) bodies rows' flags time loops
  grows_follows d x enters moves rows' e leaves is has at =
      follows_step s t st d (flowing st x (grows enters moves)) bodies rows' flags time loops is same_mirrors has at h.flags_are h.time_is
      (keeps d e leaves)

  -- none of them is of a parcel
  pub quiet_follows : (d : Demand) (x : Answer) (enters : List Reference) (moves : List Move)
      → demanded s st t ≡ Some d → DemandLeavesLoops d
      → step_of s t st (frames_at t st) d ≡ flowing st x (grows enters moves) → ((u k : ℕ) → PassesBy (parcel u k) (grows enters moves))
      → Follows s (done_by s t st d) bodies rows flags time loops
  quiet_follows d x enters moves e leaves is passes =
      grows_follows d x enters moves rows e leaves is h.parcels_are.has
      (λ u k. h.parcels_are.at u k ∙ sym (first_flowed (parcel u k) (grows enters moves) st.edges (passes u k)))

  pub statement_is : (x : Statement) (w : Ownership) → ownership_of x ≡ w
      → step_of s t st (frames_at t st) (does (says x)) ≡ statement_step s t (depth_of (frames_at t st)) st x (used_objects (bindings_of (frames_at t st)) (says x)) w
  statement_is x w e = ap (statement_step s t (depth_of (frames_at t st)) st x (used_objects (bindings_of (frames_at t st)) (says x))) e

  -- a retain
  retained : (d : Demand) (v : Holder) (object : Option ℕ)
      → ((u k : ℕ) (o : ℕ) → PassesBy (parcel u k) (grows (held_by v o ∷ []) []))
      → demanded s st t ≡ Some d → DemandLeavesLoops d
      → step_of s t st (frames_at t st) d ≡ retain_step v st object
      → Enters s t st (answer_for object) (present (object ∷ [])) bodies rows flags time loops
  retained d v None passes e leaves is =
      enters_by s t st d (idle st answers.Skip) answers.Skip bodies rows flags time loops e is refl (quiet_follows d answers.Skip [] [] e leaves is (λ u k. tt))
  retained d v (Some o) passes e leaves is =
      enters_by s t st d (flowing st answers.Ok (grows (held_by v o ∷ []) [])) answers.Ok bodies rows flags time loops e is refl
      (quiet_follows d answers.Ok (held_by v o ∷ []) [] e leaves is (λ u k. passes u k o))

  pub retain_enters : (x : Statement) (v : ℕ) (object : Option ℕ) → demanded s st t ≡ Some (does (says x))
      → ownership_of x ≡ Retains v
      → first_of (used_objects (bindings_of (frames_at t st)) (says x)) ≡ object
      → Enters s t st (answer_for object) (present (object ∷ [])) bodies rows flags time loops
  retain_enters x v object e w is =
      retained (does (says x)) (variable t (depth_of (frames_at t st)) v) object (λ u k o. (refl, tt)) e (retains_leave x v w)
      (statement_is x (Retains v) w ∙ ap (retain_step (variable t (depth_of (frames_at t st)) v) st) is)

  -- a release of nothing
  pub skip_enters : (x : Statement) (v : ℕ) → demanded s st t ≡ Some (does (says x)) → ownership_of x ≡ Releases v
      → first_of (used_objects (bindings_of (frames_at t st)) (says x)) ≡ None
      → Enters s t st answers.Skip [] bodies rows flags time loops
  skip_enters x v e w is =
      let step_is = statement_is x (Releases v) w ∙ ap (release_step t (variable t (depth_of (frames_at t st)) v) st) is in
      enters_by s t st (does (says x)) (idle st answers.Skip) answers.Skip bodies rows flags time loops e step_is refl
      (quiet_follows (does (says x)) answers.Skip [] [] e (releases_leave x v w) step_is (λ u k. tt))

  -- the end of a block
  flags_after : (b : Bool) (flags' : List Flags)
      → map flags_of flags' ≡ cond b (start_all (map flags_of flags)) (map flags_of flags)
      → map flags_of flags' ≡ (cond b (record st.parts { flags = start_all st.parts.flags }) st.parts).flags
  flags_after true flags' e = e ∙ ap start_all h.flags_are
  flags_after false flags' e = e ∙ h.flags_are

  abbrev parts_at : Bool → Parts
  parts_at b = cond b (record st.parts { flags = start_all st.parts.flags }) st.parts

  mirrors_at : (b : Bool) → Mirrors (record (parts_at b) { finalised = [] ++ (parts_at b).finalised }) bodies
  mirrors_at true = record { objects_are = h.mirrors.objects_are; live = h.mirrors.live; given_up = h.mirrors.given_up }
  mirrors_at false = same_mirrors

  time_at : (b : Bool) → time ≡ (parts_at b).time
  time_at true = h.time_is
  time_at false = h.time_is

  pub end_enters : (flags' : List Flags) → demanded s st t ≡ Some ends
      → map flags_of flags' ≡ cond (t == 0) (start_all (map flags_of flags)) (map flags_of flags)
      → Enters s t st answers.Ok [] bodies rows flags' time loops
  end_enters flags' e is =
      enters_by s t st ends (end_step t st) answers.Ok bodies rows flags' time loops e refl refl
      (follows_step s t st ends (end_step t st) bodies rows flags' time loops refl (mirrors_at (t == 0)) h.parcels_are.has h.parcels_are.at (flags_after (t == 0) flags' is) (time_at (t == 0)) (keeps ends e tt))
