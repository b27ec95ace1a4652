-- The call of a handler, and the sleep of a run, as the ground does them.
use Rattle.std.proofs.Common.{◌≡◌, ℕ, ◌∙◌, Bool, true, false, ◌||◌, cond, List, [], ◌∷◌, length, map, Option, Some, None, refl, sym, ap, subst}
use Rattle.std.proofs.lemmas.Bool.{and_parts}
use Rattle.rl_modes.specs.Loops.{Loop}
use Rattle.rl_turn.specs.declared.phases.Phase.TheVariants as phases
use Rattle.cf_ids.specs.declared.answer.Answer.{Answer}
use Rattle.cf_syntax.specs.declared.script.Script.{Script}
use Rattle.cf_graph.specs.Holders.{parcel}
use Rattle.cf_graph.specs.Edges.{Reference}
use Rattle.cf_graph.specs.Flows.{Flow, grows, still, flowed, gained_by, cut_of}
use Rattle.rl_base.specs.Dates.{has_come}
use Rattle.cf_contents.specs.Contents.{present}
use Rattle.cf_contents.specs.Stores.{Held}
use Rattle.cf_next.specs.Facts.{Callout, Facts}
use Rattle.cf_next.specs.Stands.{Callee, Frame, Kind, Role, Turn, Work, as_observer, as_receiver, as_source, as_timer, item_in, item_of, of_block, of_handler, of_run}
use Rattle.cf_next.specs.Advance.{top_kind}
use Rattle.cf_next.specs.Demands.{Demand, callout_of, calls, enters, item_callout, item_fits}
use Rattle.cf_model.specs.State.{State, Parts, first_held, flags_at, stand_at}
use Rattle.cf_model.specs.Known.{facts_of}
use Rattle.cf_model.specs.Things.{Thing, is_valid_thing, mode_date, thing_at}
use Rattle.cf_model.specs.Steps.{Step, activity, call_answer, call_references, call_step, cut_answer, demanded, finals_of, fire, fire_if, frames_at, phase_step, sleep_step, step_of}
use Rattle.cf_model.proofs.FirstHeld.{PassesBy, first_flowed}
use Rattle.cf_model.proofs.Views.{FrameView, StandView, WorkView, is_call, is_line, is_end, is_return, is_phase, is_close, first_owes, first_spends, first_drops, of_frame, of_work, stand_view}
use Rattle.cf_scene.specs.Sleeping.{HasSlept}
use Rattle.cf_scene.specs.declared.flags.Flags.{Flags}
use Rattle.cf_world.specs.Entering.{IsValidCallee}
use Rattle.cf_world.specs.Grounds.{Follows, Mirrors}
use Rattle.cf_world.proofs.Counting.{Enters, enters_by}
use Rattle.cf_world.proofs.Growing.{follows_step}
use Rattle.cf_world.proofs.Passing.{KeepsLoops}

-- ---- what is called is valid

fits_if : (b : Bool) (o : Option Callout) (c : Callout) → cond b o None ≡ Some c → b ≡ true
fits_if true o c e = refl
fits_if false o c e = absurd cc

item_valid : (st : State) (t : ℕ) (kind : Kind) (role : Role) (i : ℕ) (c : Callout)
    → item_callout (facts_of st) t kind role i ≡ Some c → is_valid_thing (thing_at st.parts i) ≡ true
item_valid st t (of_run r) role i c e =
    let fits = fits_if (item_fits (facts_of st) t r role i) ((facts_of st).callout i) c e in
    (and_parts _ _ (and_parts _ _ fits).1).0
item_valid st t of_block role i c e = absurd cc
item_valid st t (of_handler k) role i c e = absurd cc

same_item : (i j : ℕ) → ◌≡◌ {A = Option ℕ} (Some i) (Some j) → i ≡ j
same_item i j e = cc

role_valid : (st : State) (t : ℕ) (kind : Kind) (role : Role) (n : ℕ) (c : Callout)
    → callout_of (facts_of st) t kind role n ≡ Some c → (i : ℕ) → item_in role n ≡ Some i
    → is_valid_thing (thing_at st.parts i) ≡ true
role_valid st t kind as_observer n c e i is =
    subst (λ (j : ℕ). is_valid_thing (thing_at st.parts j) ≡ true) (same_item n i is) (item_valid st t kind as_observer n c e)
role_valid st t kind as_source n c e i is =
    subst (λ (j : ℕ). is_valid_thing (thing_at st.parts j) ≡ true) (same_item n i is) (item_valid st t kind as_source n c e)
role_valid st t kind as_timer n c e i is =
    subst (λ (j : ℕ). is_valid_thing (thing_at st.parts j) ≡ true) (same_item n i is) (item_valid st t kind as_timer n c e)
role_valid st t kind as_receiver n c e i is = absurd cc

-- what is called by a demand is valid
abbrev CallIsValid : Parts → Demand → Type 0
CallIsValid p (calls k c) = IsValidCallee p k
CallIsValid p _ = Unit {0}

frame_valid : (s : Script) (st : State) (t : ℕ) (f : Frame) (d : Demand) → FrameView s (facts_of st) t f d
    → CallIsValid st.parts d
frame_valid s st t f _ (is_call k c found) = role_valid st t f.kind k.role k.number c found
frame_valid s st t f _ (is_line x at) = tt
frame_valid s st t f _ (is_end k) = tt
frame_valid s st t f _ (is_return k q end) = tt
frame_valid s st t f _ (is_phase r p q) = tt
frame_valid s st t f _ (is_close r q) = tt

work_valid : (p : Parts) (facts : Facts) (work : List Work) (d : Demand) → WorkView facts work d → CallIsValid p d
work_valid p facts work _ (first_owes o first) = tt
work_valid p facts work _ (first_spends i first) = tt
work_valid p facts work _ (first_drops b k o left first) = tt

demand_valid : (s : Script) (st : State) (t : ℕ) (d : Demand)
    → StandView s (facts_of st) t (stand_at t st.stands) d → CallIsValid st.parts d
demand_valid s st t d (of_work w view) = work_valid st.parts (facts_of st) (stand_at t st.stands).work d view
demand_valid s st t d (of_frame f fs w q view) = frame_valid s st t f d view

pub call_valid : (s : Script) (st : State) (t : ℕ) (k : Callee) (c : Callout) → demanded s st t ≡ Some (calls k c)
    → IsValidCallee st.parts k
call_valid s st t k c e = demand_valid s st t (calls k c) (stand_view s (facts_of st) t (stand_at t st.stands) (calls k c) e)

-- ---- a sleep changes flags alone

-- a step without a flow that changes no object and no time
record IsQuiet (st : State) (step : Step) : Type 0 where
  flow : step.flow ≡ still
  objects : step.parts.objects ≡ st.parts.objects
  finalised : step.parts.finalised ≡ st.parts.finalised
  dropped : step.parts.dropped ≡ st.parts.dropped
  time : step.parts.time ≡ st.parts.time

quiet_if : (st : State) (b : Bool) (x y : Step) → IsQuiet st x → IsQuiet st y → IsQuiet st (cond b x y)
quiet_if st true x y h k = h
quiet_if st false x y h k = k

sleep_quiet : (st : State) (t : ℕ) (r : Turn) → IsQuiet st (sleep_step st t r)
sleep_quiet st t r =
    quiet_if st (flags_at t st.parts.flags).is_woken _ _ (record { flow = refl; objects = refl; finalised = refl; dropped = refl; time = refl })
    (quiet_if st (has_come r.deadline st.parts.time || has_come (mode_date st t r.mode) st.parts.time) _ _
    (record { flow = refl; objects = refl; finalised = refl; dropped = refl; time = refl })
    (record { flow = refl; objects = refl; finalised = refl; dropped = refl; time = refl }))

-- ---- a call

pub refs_objects : (t d : ℕ) (info item : Option ℕ)
    → map (λ (r : Reference). r.object) (call_references t d info item) ≡ present (info ∷ item ∷ [])
refs_objects t d None None = refl
refs_objects t d None (Some i) = refl
refs_objects t d (Some o) None = refl
refs_objects t d (Some o) (Some i) = refl

refs_pass : (u k t d : ℕ) (info item : Option ℕ) → PassesBy (parcel u k) (grows (call_references t d info item) [])
refs_pass u k t d None None = tt
refs_pass u k t d None (Some i) = (refl, tt)
refs_pass u k t d (Some o) None = (refl, tt)
refs_pass u k t d (Some o) (Some i) = (refl, (refl, tt))

-- a callout changes no flag and no time
fire_quiet : (p : Parts) (o : Option ℕ) → ((fire_if p o).flags ≡ p.flags) × ((fire_if p o).time ≡ p.time)
fire_quiet p None = (refl, refl)
fire_quiet p (Some i) = by (thing_at p i)
  where
    by : (x : Option Thing) → ((fire p i x).flags ≡ p.flags) × ((fire p i x).time ≡ p.time)
    by None = (refl, refl)
    by (Some x) = (refl, refl)

module _ (s : Script) (t : ℕ) (st : State) (bodies : List Held) (rows : List (List (Option ℕ))) (flags : List Flags) (time : ℕ) (loops : List Loop) (h : Follows s st bodies rows flags time loops) (keeps : KeepsLoops s t st loops) where
  pub call_enters : (k : Callee) (c : Callout) (bodies' : List Held) → demanded s st t ≡ Some (calls k c)
      → Mirrors (fire_if st.parts (item_of k)) bodies'
      → Enters s t st (call_answer k.role (activity (top_kind (frames_at t st)))) (present (c.info ∷ item_of k ∷ [])) bodies' rows flags time loops
  call_enters k c bodies' e mirrors =
      let d = length (frames_at t st) in
      let step = call_step t d st (top_kind (frames_at t st)) k c in
      let quiet = fire_quiet st.parts (item_of k) in
      subst (λ (os : List ℕ). Enters s t st (call_answer k.role (activity (top_kind (frames_at t st)))) os bodies' rows flags time loops) (refs_objects t d c.info (item_of k))
      (enters_by s t st (calls k c) step (call_answer k.role (activity (top_kind (frames_at t st)))) bodies' rows flags time loops e refl refl
      (follows_step s t st (calls k c) step bodies' rows flags time loops refl
      (record { objects_are = mirrors.objects_are; live = mirrors.live; given_up = mirrors.given_up })
      h.parcels_are.has
      (λ u n. h.parcels_are.at u n ∙ sym (first_flowed (parcel u n) step.flow st.edges (refs_pass u n t d c.info (item_of k))))
      (h.flags_are ∙ sym quiet.0) (h.time_is ∙ sym quiet.1) (keeps (calls k c) e tt)))

  -- ---- a sleep

  pub sleep_enters : (r : Turn) (x : Answer) (flags' : List Flags) → demanded s st t ≡ Some (enters phases.Sleep)
      → top_kind (frames_at t st) ≡ of_run r → HasSlept st t r x flags' → Enters s t st x [] bodies rows flags' time loops
  sleep_enters r x flags' e top slept =
      let step = sleep_step st t r in
      let is : step_of s t st (frames_at t st) (enters phases.Sleep) ≡ step = ap (phase_step st t phases.Sleep) top in
      let q = sleep_quiet st t r in
      subst (λ (os : List ℕ). Enters s t st x os bodies rows flags' time loops) (ap gained_by q.flow)
      (enters_by s t st (enters phases.Sleep) step x bodies rows flags' time loops e is
      (ap (λ (f : Flow). cut_answer (cut_of f) st.parts.objects (flowed f st.edges) step.answer) q.flow ∙ sym slept.answer_is)
      (follows_step s t st (enters phases.Sleep) step bodies rows flags' time loops is
      (rw (ap (λ (f : Flow). finals_of (cut_of f) (flowed f st.edges)) q.flow, q.finalised) (record { objects_are = h.mirrors.objects_are ∙ sym q.objects; live = λ o. rw q.objects (h.mirrors.live o); given_up = λ o. rw q.dropped (h.mirrors.given_up o) }))
      h.parcels_are.has
      (λ u k. h.parcels_are.at u k ∙ ap (λ (f : Flow). first_held (parcel u k) (flowed f st.edges)) (sym q.flow))
      slept.flags_are (h.time_is ∙ sym q.time) (keeps (enters phases.Sleep) e tt)))
