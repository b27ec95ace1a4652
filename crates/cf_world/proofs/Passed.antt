-- Entries that leave the ground as it is: the first line of a handler, its end, a phase of a run but its sleep, and the
-- end of a run.
use Rattle.std.proofs.Common.{◌≡◌, ℕ, ◌∙◌, List, [], ◌∷◌, ◌++◌, Option, Some, None, refl, sym, ap, subst}
use Rattle.rl_modes.specs.Loops.{Loop}
use Rattle.rl_turn.specs.declared.phases.Phase.{Phase}
use Rattle.rl_turn.specs.declared.phases.Phase.TheVariants as phases
use Rattle.cf_ids.specs.declared.answer.Answer.TheVariants as answers
use Rattle.cf_syntax.specs.declared.script.Script.{Script}
use Rattle.cf_syntax.specs.BlockLines.{begins}
use Rattle.std.proofs.lemmas.Bool.{eq-eqb}
use Rattle.cf_graph.specs.Holders.{Holder, variable, callout, owed, parcel, slot, in_mode, in_common}
use Rattle.cf_graph.specs.Edges.{Reference}
use Rattle.cf_graph.specs.Flows.{Move, Flow, grows, flowed, gained_by, cut_of}
use Rattle.cf_contents.specs.Stores.{Held}
use Rattle.cf_next.specs.Stands.{Kind, of_block, of_handler, of_run, Turn}
use Rattle.cf_next.specs.Advance.{top_info, top_kind, kind_item}
use Rattle.cf_next.specs.Demands.{Demand, does, returns, enters, closes}
use Rattle.cf_model.specs.State.{State, Parts, first_held}
use Rattle.cf_model.specs.Own.{own_references, moves_to}
use Rattle.cf_model.specs.Steps.{Step, idle, cut_answer, finals_of, step_finals, turn_step, return_step, call_references, close_step, phase_step, step_of, step_answer, frames_at, depth_of, demanded}
use Rattle.cf_model.proofs.FirstHeld.{PassesBy, NoParcel, parcel_other, first_flowed}
use Rattle.cf_model.proofs.OwnLaws.{IsOf, AllOf, own_are}
use Rattle.cf_loops.specs.Following.{DemandLeavesLoops}
use Rattle.cf_scene.specs.declared.flags.Flags.{Flags}
use Rattle.cf_world.specs.Grounds.{Mirrors, Follows}
use Rattle.cf_world.specs.Entering.{IsPassing}
use Rattle.cf_world.proofs.Counting.{Enters, enters_by}
use Rattle.cf_world.proofs.Growing.{follows_step}
use Rattle.cf_world.proofs.Passing.{KeepsLoops}

-- a step that changes no part, and by which references do no more than move, none of a parcel or to one
pub record StaysPut (st : State) (step : Step) : Type 0 where
  pub parts : step.parts ≡ st.parts
  pub moves : List Move
  pub flow : step.flow ≡ grows [] moves
  pub passes : (u k : ℕ) → PassesBy (parcel u k) (grows [] moves)
  pub stops : step.stops ≡ None

still_put : (st : State) (step : Step) → step.parts ≡ st.parts → step.flow ≡ grows [] [] → step.stops ≡ None
    → StaysPut st step
still_put st step parts flow stops = record { parts = parts; moves = []; flow = flow; passes = λ u k. tt; stops = stops }

-- what is a thread's own is no place of a parcel
own_no_parcel : (t : ℕ) (h : Holder) → IsOf t h → NoParcel h
own_no_parcel t (variable u d v) of = tt
own_no_parcel t (callout u d) of = tt
own_no_parcel t (owed u) of = tt
own_no_parcel t (parcel u k) of = absurd cc
own_no_parcel t (slot b) of = tt
own_no_parcel t (in_mode u m) of = tt
own_no_parcel t (in_common u) of = tt

moved_passes : (t u k : ℕ) (to : Holder) (rs : List Reference) → NoParcel to → AllOf t rs
    → PassesBy (parcel u k) (grows [] (moves_to to rs))
moved_passes t u k to [] none of = tt
moved_passes t u k to (r ∷ rs) none of =
    (parcel_other u k r.holder (own_no_parcel t r.holder of.0), parcel_other u k to none, moved_passes t u k to rs none of.1)

called_of : (t d : ℕ) (info item : Option ℕ) → AllOf t (call_references t d info item)
called_of t d None None = tt
called_of t d None (Some i) = (eq-eqb t t refl, tt)
called_of t d (Some o) None = (eq-eqb t t refl, tt)
called_of t d (Some o) (Some i) = (eq-eqb t t refl, (eq-eqb t t refl, tt))

returned : (t d : ℕ) (st : State) (info item : Option ℕ) → StaysPut st (return_step t d st info item)
returned t d st info item =
    let rs = call_references t d info item in
    record {
      parts = refl;
      moves = moves_to (owed t) (own_references t rs st.edges);
      flow = refl;
      passes = λ u k. moved_passes t u k (owed t) (own_references t rs st.edges) tt (own_are t rs st.edges (called_of t d info item)).thread;
      stops = refl;
    }

entered : (st : State) (t : ℕ) (r : Turn) (p : Phase) → IsPassing (enters p) → StaysPut st (turn_step st t r p)
entered st t r phases.Sleep h = absurd h
entered st t r phases.Test h = still_put st (turn_step st t r phases.Test) refl refl refl
entered st t r p h = still_put st (turn_step st t r p) refl refl refl

pub stays_put : (s : Script) (t : ℕ) (st : State) (d : Demand) → IsPassing d
    → StaysPut st (step_of s t st (frames_at t st) d)
stays_put s t st (does (begins v)) h = still_put st (idle st answers.Ok) refl refl refl
stays_put s t st returns h =
    returned t (depth_of (frames_at t st)) st (top_info (frames_at t st)) (kind_item (top_kind (frames_at t st)))
stays_put s t st (enters p) h = by (top_kind (frames_at t st))
  where
    by : (k : Kind) → StaysPut st (phase_step st t p k)
    by of_block = still_put st (idle st answers.Ok) refl refl refl
    by (of_handler k) = still_put st (idle st answers.Ok) refl refl refl
    by (of_run r) = entered st t r p h
stays_put s t st closes h = by (top_kind (frames_at t st))
  where
    by : (k : Kind) → StaysPut st (close_step st k)
    by of_block = still_put st (idle st answers.Ok) refl refl refl
    by (of_handler k) = still_put st (idle st answers.Ok) refl refl refl
    by (of_run r) = still_put st (close_step st (of_run r)) refl refl refl
stays_put s t st _ h = absurd h

passing_leaves : (d : Demand) → IsPassing d → DemandLeavesLoops d
passing_leaves (does (begins v)) h = tt
passing_leaves returns h = tt
passing_leaves (enters p) h = tt
passing_leaves closes h = tt
passing_leaves _ h = absurd h

-- ---- what it tells the ground

module _ (s : Script) (t : ℕ) (st : State) (bodies : List Held) (rows : List (List (Option ℕ))) (flags : List Flags) (time : ℕ) (loops : List Loop) (h : Follows s st bodies rows flags time loops) (keeps : KeepsLoops s t st loops) where
  pub pass_enters : (d : Demand) → demanded s st t ≡ Some d → IsPassing d
      → Enters s t st (step_of s t st (frames_at t st) d).answer [] bodies rows flags time loops
  pass_enters d e passing =
      let step = step_of s t st (frames_at t st) d in
      let put = stays_put s t st d passing in
      let quiet : step_answer step st ≡ step.answer = ap (λ (f : Flow). cut_answer (cut_of f) st.parts.objects (flowed f st.edges) step.answer) put.flow in
      let finals : step_finals step st ≡ [] = ap (λ (f : Flow). finals_of (cut_of f) (flowed f st.edges)) put.flow in
      let mirrors : Mirrors (record step.parts { finalised = step_finals step st ++ step.parts.finalised }) bodies =
      rw (finals, put.parts) (record { objects_are = h.mirrors.objects_are; live = h.mirrors.live; given_up = h.mirrors.given_up }) in
      subst (λ (os : List ℕ). Enters s t st step.answer os bodies rows flags time loops) (ap gained_by put.flow)
      (enters_by s t st d step step.answer bodies rows flags time loops e refl quiet
      (follows_step s t st d step bodies rows flags time loops refl mirrors h.parcels_are.has
      (λ u k. h.parcels_are.at u k ∙ sym (first_flowed (parcel u k) (grows [] put.moves) st.edges (put.passes u k)) ∙ ap (λ (f : Flow). first_held (parcel u k) (flowed f st.edges)) (sym put.flow))
      (h.flags_are ∙ ap (λ (p : Parts). p.flags) (sym put.parts)) (h.time_is ∙ ap (λ (p : Parts). p.time) (sym put.parts))
      (keeps d e (passing_leaves d passing))))
