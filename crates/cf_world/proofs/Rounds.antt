-- A world goes on by an entry that no line writes: the first line of a handler, its end, an item that is spent, a call,
-- a phase of a run, and the end of a run.
use Rattle.std.proofs.Common.{◌≡◌, ℕ, ◌<◌, ◌≤◌, ◌∙◌, Bool, true, false, ◌||◌, cond, List, [], ◌∷◌, ◌++◌, length, map, Option, Some, None, replicate, refl, sym, ap, subst, arith}
use Rattle.std.specs.Prelude.{IfSome}
use Rattle.std.proofs.lemmas.List.{length-map, length-replicate}
use Rattle.std.specs.Option.{option_and_then}
use Rattle.rl_base.specs.Dates.{has_come}
use Rattle.rl_turn.specs.declared.phases.Phase.{Phase}
use Rattle.rl_turn.specs.declared.phases.Phase.TheVariants as phases
use Rattle.cf_ids.specs.declared.answer.Answer.{Answer}
use Rattle.cf_ids.specs.declared.answer.Answer.TheVariants as answers
use Rattle.cf_graph.specs.Edges.{Reference}
use Rattle.cf_graph.specs.Flows.{Flow, flowed, cut_of, gained_by}
use Rattle.cf_contents.specs.Contents.{present}
use Rattle.cf_model.specs.Flowing.{flow_if}
use Rattle.cf_next.specs.declared.step.Step.{Step as Found}
use Rattle.cf_next.specs.declared.step.Step.TheVariants as steps
use Rattle.cf_next.specs.Facts.{Callout, Facts}
use Rattle.cf_syntax.specs.declared.script.Script.{Script}
use Rattle.cf_syntax.specs.BlockLines.{begins, claims, says, packs}
use Rattle.cf_next.specs.Stands.{Callee, Frame, Kind, Role, Stand, Turn, Work, as_observer, as_receiver, as_source, as_timer, item_of, of_block, of_handler, of_run}
use Rattle.cf_next.specs.declared.parts.Callee.{Callee as CodeCallee}
use Rattle.cf_next.specs.declared.object.MaybeObject.{MaybeObject}
use Rattle.cf_next.specs.declared.object.Used.{Used}
use Rattle.cf_next.specs.Views.{callee_of, object_of}
use Rattle.cf_next.specs.Actions.{cut_of as action_cut}
use Rattle.cf_next.specs.Standing.{Standing, HasRoom, HasRoomFor, finals_in, innermost_run, is_retain, run_or}
use Rattle.cf_next.specs.Demands.{Demand, does, ends, returns, owes, spends, drops, calls, enters, closes, callout_of, item_callout}
use Rattle.cf_next.specs.Advance.{advanced, top_kind}
use Rattle.cf_next.specs.Next.{action_in}
use Rattle.cf_next.specs.Turns.{test_result}
use Rattle.cf_next.specs.Steps.{demand_of, step_cut}
use Rattle.cf_model.specs.State.{State, flags_at, stand_at}
use Rattle.cf_model.specs.Known.{facts_of}
use Rattle.cf_model.specs.Things.{Thing, items_in, mode_date, thing_at}
use Rattle.cf_model.specs.Deals.{Deal}
use Rattle.cf_model.specs.Steps.{Step, activity, activity_of, call_answer, close_step, cut_answer, deal_step, demanded, finals_of, frames_at, phase_step, result_answer, sleep_step, spend_if, step_of, turn_step}
use Rattle.cf_model.proofs.Views.{FrameView, StandView, WorkView, is_call, is_line, is_end, is_return, is_phase, is_close, first_owes, first_spends, first_drops, of_frame, of_work, stand_view}
use Rattle.cf_scene.specs.Dealing.{spending}
use Rattle.cf_world.specs.Grounds.{GroundView, state_of}
use Rattle.cf_world.specs.Entering.{HasEntered, IsPass, IsPassing, called_answer, gained_in}
use Rattle.cf_world.specs.Kept.{step_kept}
use Rattle.cf_world.specs.declared.found.Found.{Found as Kept}
use Rattle.cf_world.specs.declared.found.Found.TheVariants as kept
use Rattle.cf_world.specs.declared.found.Reserved.{Reserved}
use Rattle.cf_world.proofs.Apart.{deals_cut_none, deals_retain_none}
use Rattle.cf_world.proofs.Forms.{said_releases, said_retains}
use Rattle.cf_world.specs.Worlds.{retained_by}
use Rattle.cf_world.specs.Begun.{AreFrames, AreMost, FitsItems, HasGone, HasLists, HasMoved, IsFound, IsCallOf, IsReserved, IsRoundFound, IsSpends, IsStillFound, standing_at, MovesBy, still_answer}
use Rattle.cf_world.proofs.Called.{refs_objects}
use Rattle.cf_world.proofs.Going.{IsFoundStep, Keeps_, has_room, kept_as}
use Rattle.cf_world.proofs.Moving.{IsMove, Moves, action_of_demand, gone_by, less_room, room_for, stand_here}
use Rattle.cf_world.proofs.Sourced.{no_observers, no_timers, sourced, staged_sources}
use Rattle.cf_world.proofs.Passed.{StaysPut, stays_put}

-- ---- what is no line

-- where a thread goes on does not depend on the answer, but of a line
abbrev pub IsRound : Demand → Type 0
IsRound (does x) = ⊥
IsRound _ = Unit {0}

answer_free : (facts : Facts) (t : ℕ) (d : Demand) (a b : Answer) (finals list : List ℕ) (stand : Stand) → IsRound d
    → advanced facts t d a finals list stand ≡ advanced facts t d b finals list stand
answer_free facts t (does x) a b finals list stand h = absurd h
answer_free facts t ends a b finals list stand h = refl
answer_free facts t returns a b finals list stand h = refl
answer_free facts t (owes o) a b finals list stand h = refl
answer_free facts t (spends i) a b finals list stand h = refl
answer_free facts t (drops c k o) a b finals list stand h = refl
answer_free facts t (calls k c) a b finals list stand h = refl
answer_free facts t (enters p) a b finals list stand h = refl
answer_free facts t closes a b finals list stand h = refl

-- what takes nothing away finalises nothing
no_finals : (a : Answer) → finals_in None a ≡ []
no_finals (answers.Final class) = refl
no_finals a = refl

module _ (g g' : GroundView) (frames : List Standing) (r : Reserved) (found : IsFound g r) (entered : HasEntered r.thread r.action g g') (y : Answer) (list : List ℕ) (moved : IfSome (step_kept r.found) (MovesBy g r.thread y list frames)) where
  abbrev st : State
  st = state_of g

  abbrev t : ℕ
  t = r.thread

  abbrev stand : Stand
  stand = stand_at t st.stands

  moved_as : (f : Kept) (x : Found) → r.found ≡ f → step_kept f ≡ Some x → step_cut x ≡ None
      → HasMoved g.script st.stands t (advanced (facts_of st) t (demand_of x) y [] list stand) frames
  moved_as f x e is cuts =
      subst (λ (fs : List ℕ). HasMoved g.script st.stands t (advanced (facts_of st) t (demand_of x) y fs list stand) frames)
      (ap (λ (o : Option ℕ). finals_in o y) cuts ∙ no_finals y)
      (subst (λ (o : Option Found). IfSome o (MovesBy g t y list frames)) (ap step_kept e ∙ is) moved)

  -- with its own answer, or with another one where that decides nothing
  pub round_gone : (f : Kept) (x : Found) (answer : Answer) → r.found ≡ f → step_kept f ≡ Some x → step_cut x ≡ None
      → IsFoundStep g r x → IsRound (demand_of x) → IsMove g.script t st (demand_of x) answer [] list → HasGone r g g' frames
  round_gone f x answer e is cuts step round h =
      gone_by g g' r (demand_of x) answer answer [] [] list frames found entered step.demand h refl refl
      (subst (λ (s : Stand). HasMoved g.script st.stands t s frames) (answer_free (facts_of st) t (demand_of x) y answer [] list stand round)
      (moved_as f x e is cuts))

  pub own_gone : (f : Kept) (x : Found) → r.found ≡ f → step_kept f ≡ Some x → step_cut x ≡ None
      → IsFoundStep g r x → IsMove g.script t st (demand_of x) y [] list → HasGone r g g' frames
  own_gone f x e is cuts step h =
      gone_by g g' r (demand_of x) y y [] [] list frames found entered step.demand h refl refl (moved_as f x e is cuts)

-- ---- how each moves its thread

pub put_moves : (st : State) (step : Step) → StaysPut st step → Moves step st step.answer [] step.list
put_moves st step put = record {
  answer_is = ap (λ (f : Flow). cut_answer (cut_of f) st.parts.objects (flowed f st.edges) step.answer) put.flow;
  finals_are = ap (λ (f : Flow). finals_of (cut_of f) (flowed f st.edges)) put.flow;
  list_is = refl;
  stops = put.stops;
}

-- ---- what was kept, as the step that it was

same_demand : (a b : Demand) → ◌≡◌ {A = Option Demand} (Some a) (Some b) → a ≡ b
same_demand a b e = cc

-- what was kept is a step that takes nothing away
pub record IsKeptStep (g : GroundView) (r : Reserved) (d : Demand) : Type 0 where
  pub step : Found
  pub is : step_kept r.found ≡ Some step
  pub there : IsFoundStep g r step
  pub demand : demand_of step ≡ d
  pub cuts : step_cut step ≡ None

module _ (g : GroundView) (r : Reserved) (d : Demand) (demands : demanded g.script (state_of g) r.thread ≡ Some d) (passing : IsPassing d) where
  -- what is another demand does not pass
  other : (e : Demand) → demanded g.script (state_of g) r.thread ≡ Some e → (IsPassing e → ⊥) → ⊥
  other e q h = h (subst IsPassing (same_demand d e (sym demands ∙ q)) passing)

  found_as : (x : Found) → step_kept r.found ≡ Some x → IsFoundStep g r x → step_cut x ≡ None → IsKeptStep g r d
  found_as x is step cuts =
      record { step = x; is = is; there = step; demand = same_demand (demand_of x) d (sym step.demand ∙ demands); cuts = cuts }

  pub kept_pass : (f : Kept) → r.found ≡ f → Keeps_ g r f → IsKeptStep g r d
  kept_pass kept.Begins e h = found_as steps.Begins (ap step_kept e) h refl
  kept_pass kept.Returns e h = found_as steps.Returns (ap step_kept e) h refl
  kept_pass (kept.Enters p) e h = found_as (steps.Enters p) (ap step_kept e) h refl
  kept_pass kept.Closes e h = found_as steps.Closes (ap step_kept e) h refl
  kept_pass (kept.Claims k v) e h = absurd (other (does (claims k v)) h.demand (λ q. q))
  kept_pass (kept.Says b n used) e h = absurd (other (does (says h.statement)) h.demands (λ q. q))
  kept_pass (kept.Deals b n used) e h = absurd (other (does (says h.statement)) h.demands (λ q. q))
  kept_pass (kept.Packs u k v) e h = absurd (other (does (packs u k v)) h.demand (λ q. q))
  kept_pass kept.Ends e h = absurd (other ends h.demand (λ q. q))
  kept_pass (kept.Owes o left) e h = absurd (other (owes o) h.demand (λ q. q))
  kept_pass (kept.Spends i left) e h = absurd (other (spends i) h.demand (λ q. q))
  kept_pass (kept.Drops b k o left) e h = absurd (other (drops b k o) h.demand (λ q. q))
  kept_pass (kept.Calls k c info left) e h = absurd (other (calls (callee_of k) _) h.demand (λ q. q))

-- an entry that leaves the ground as it is
module _ (g g' : GroundView) (frames : List Standing) (r : Reserved) (found : IsFound g r) (entered : HasEntered r.thread r.action g g') (y : Answer) (list : List ℕ) (moved : IfSome (step_kept r.found) (MovesBy g r.thread y list frames)) where
  pub pass_gone : IsPass g r.thread y list → HasGone r g g' frames
  pass_gone p =
      let t = r.thread in
      let st = state_of g in
      let step = step_of g.script t st (frames_at t st) p.demand in
      let m = put_moves st step (stays_put g.script t st p.demand p.passes) in
      let k = kept_pass g r p.demand p.demands p.passes r.found refl found.kept in
      let h : IsMove g.script t st p.demand y [] list = record { answer_is = m.answer_is ∙ sym p.answer_is; finals_are = m.finals_are; list_is = sym p.list_is; stops = m.stops } in
      own_gone g g' frames r found entered y list moved r.found k.step refl k.is k.cuts k.there (subst (λ (e : Demand). IsMove g.script t st e y [] list) (sym k.demand) h)

-- ---- a run is innermost where a phase or its end is demanded

abbrev pub IsOfRun : Demand → Type 0
IsOfRun (enters p) = Unit {0}
IsOfRun closes = Unit {0}
IsOfRun _ = ⊥

pub record InnermostRun (t : ℕ) (st : State) : Type 0 where
  pub run : Turn
  pub top : top_kind (frames_at t st) ≡ of_run run
  pub innermost : innermost_run (frames_at t st) ≡ Some run

run_there : (t : ℕ) (st : State) (f : Frame) (fs : List Frame) (r : Turn) → frames_at t st ≡ f ∷ fs
    → f.kind ≡ of_run r → InnermostRun t st
run_there t st f fs r e is = record {
  run = r;
  top = ap top_kind e ∙ is;
  innermost = ap innermost_run e ∙ ap (λ (k : Kind). run_or k (innermost_run fs)) is;
}

frame_run : (s : Script) (t : ℕ) (st : State) (f : Frame) (fs : List Frame) (d : Demand) → frames_at t st ≡ f ∷ fs
    → IsOfRun d → FrameView s (facts_of st) t f d → InnermostRun t st
frame_run s t st f fs _ e h (is_call k c found) = absurd h
frame_run s t st f fs _ e h (is_line x at) = absurd h
frame_run s t st f fs _ e h (is_end k) = absurd h
frame_run s t st f fs _ e h (is_return k q end) = absurd h
frame_run s t st f fs _ e h (is_phase r p q) = run_there t st f fs r e q
frame_run s t st f fs _ e h (is_close r q) = run_there t st f fs r e q

work_run : (facts : Facts) (work : List Work) (d : Demand) → IsOfRun d → WorkView facts work d → ⊥
work_run facts work _ h (first_owes p first) = h
work_run facts work _ h (first_spends i first) = h
work_run facts work _ h (first_drops b k p left first) = h

stand_run : (s : Script) (t : ℕ) (st : State) (d : Demand) → IsOfRun d
    → StandView s (facts_of st) t (stand_at t st.stands) d → InnermostRun t st
stand_run s t st d h (of_work w view) = absurd (work_run (facts_of st) (stand_at t st.stands).work d h view)
stand_run s t st d h (of_frame f fs w q view) = frame_run s t st f fs d q h view

pub innermost : (s : Script) (t : ℕ) (st : State) (d : Demand) → IsOfRun d → demanded s st t ≡ Some d → InnermostRun t st
innermost s t st d h e = stand_run s t st d h (stand_view s (facts_of st) t (stand_at t st.stands) d e)

-- ---- what passes

module _ (g : GroundView) (r : Reserved) (a : Answer) where
  abbrev here : List Frame
  here = frames_at r.thread (state_of g)

  pub still_passes : (f : Kept) → IsStillFound f → Keeps_ g r f
      → a ≡ still_answer f (option_and_then (λ (x : Turn). x.result) (innermost_run here)) → IsPass g r.thread a []
  still_passes kept.Begins still h e = record { demand = does (begins 0); demands = h.demand; passes = tt; answer_is = e; list_is = refl }
  still_passes kept.Returns still h e = record { demand = returns; demands = h.demand; passes = tt; answer_is = e; list_is = refl }
  still_passes kept.Closes still h e =
      let run = innermost g.script r.thread (state_of g) closes tt h.demand in
      record {
        demand = closes;
        demands = h.demand;
        passes = tt;
        answer_is = e ∙ ap (λ (o : Option Turn). result_answer (option_and_then (λ (x : Turn). x.result) o)) run.innermost ∙ sym (ap (λ (k : Kind). (close_step (state_of g) k).answer) run.top);
        list_is = sym (ap (λ (k : Kind). (close_step (state_of g) k).list) run.top);
      }
  still_passes (kept.Claims k v) still h e = absurd still
  still_passes (kept.Says b n used) still h e = absurd still
  still_passes (kept.Deals b n used) still h e = absurd still
  still_passes (kept.Packs u k v) still h e = absurd still
  still_passes kept.Ends still h e = absurd still
  still_passes (kept.Owes o left) still h e = absurd still
  still_passes (kept.Spends i left) still h e = absurd still
  still_passes (kept.Drops b k o left) still h e = absurd still
  still_passes (kept.Calls k c info left) still h e = absurd still
  still_passes (kept.Enters p) still h e = absurd still

  -- a phase of a run but its sleep
  pub phase_passes : (p : Phase) → (IsPassing (enters p)) → Keeps_ g r (kept.Enters p) → (list : List ℕ)
      → ((x : Turn) → innermost_run here ≡ Some x → (a ≡ (turn_step (state_of g) r.thread x p).answer) × (list ≡ (turn_step (state_of g) r.thread x p).list))
      → IsPass g r.thread a list
  phase_passes p passing h list is =
      let run = innermost g.script r.thread (state_of g) (enters p) tt h.demand in
      let told = is run.run run.innermost in
      record {
        demand = enters p;
        demands = h.demand;
        passes = passing;
        answer_is = told.0 ∙ sym (ap (λ (k : Kind). (phase_step (state_of g) r.thread p k).answer) run.top);
        list_is = told.1 ∙ sym (ap (λ (k : Kind). (phase_step (state_of g) r.thread p k).list) run.top);
      }

-- ---- a sleep, an item that is spent, and a call

quiet_if : (st : State) (b : Bool) (x y : Step) → Moves x st x.answer [] [] → Moves y st y.answer [] []
    → Moves (cond b x y) st (cond b x y).answer [] []
quiet_if st true x y h k = h
quiet_if st false x y h k = k

sleep_moves : (st : State) (t : ℕ) (r : Turn) → Moves (sleep_step st t r) st (sleep_step st t r).answer [] []
sleep_moves st t r =
    quiet_if st (flags_at t st.parts.flags).is_woken _ _ (record { answer_is = refl; finals_are = refl; list_is = refl; stops = refl })
    (quiet_if st (has_come r.deadline st.parts.time || has_come (mode_date st t r.mode) st.parts.time) _ _
    (record { answer_is = refl; finals_are = refl; list_is = refl; stops = refl }) (record { answer_is = refl; finals_are = refl; list_is = refl; stops = refl }))

-- a deal moves its thread on by what leaves
pub dealt_moves : (st : State) (t : ℕ) (deal : Deal) → deal.stops ≡ None
    → Moves (deal_step t deal []) st deal.answer [] (map (λ (q : Reference). q.object) deal.leaves)
dealt_moves st t deal none = record { answer_is = refl; finals_are = refl; list_is = append_none (map (λ (q : Reference). q.object) deal.leaves); stops = none }
  where
    append_none : (xs : List ℕ) → xs ++ [] ≡ xs
    append_none [] = refl
    append_none (x ∷ xs) = ap (λ (ys : List ℕ). x ∷ ys) (append_none xs)

-- who spends an item stops no run
spend_stops : (s : Script) (st : State) (i : ℕ) → (spending s st i).stops ≡ None
spend_stops s st i = by (thing_at st.parts i)
  where
    either : (b : Bool) (x y : Deal) → x.stops ≡ None → y.stops ≡ None → (cond b x y).stops ≡ None
    either true x y h k = h
    either false x y h k = k

    by : (x : Option Thing) → (spend_if s st i x).stops ≡ None
    by None = refl
    by (Some x) = either x.valid _ _ (either x.valid _ _ refl refl) refl

module _ (g g' : GroundView) (frames : List Standing) (r : Reserved) (found : IsFound g r) (entered : HasEntered r.thread r.action g g') (y : Answer) (list : List ℕ) (moved : IfSome (step_kept r.found) (MovesBy g r.thread y list frames)) where
  pub sleep_gone : r.found ≡ kept.Enters phases.Sleep → list ≡ [] → HasGone r g g' frames
  sleep_gone e none =
      let t = r.thread in
      let st = state_of g in
      let h : IsFoundStep g r (steps.Enters phases.Sleep) = kept_as g r (kept.Enters phases.Sleep) found e in
      let run = innermost g.script t st (enters phases.Sleep) tt h.demand in
      let m = sleep_moves st t run.run in
      let step : phase_step st t phases.Sleep (top_kind (frames_at t st)) ≡ sleep_step st t run.run = ap (phase_step st t phases.Sleep) run.top in
      round_gone g g' frames r found entered y list moved r.found (steps.Enters phases.Sleep) (sleep_step st t run.run).answer refl (ap step_kept e) refl h tt
      (subst (λ (x : Step). Moves x st (sleep_step st t run.run).answer [] list) (sym step) (record { answer_is = m.answer_is; finals_are = m.finals_are; list_is = m.list_is ∙ sym none; stops = m.stops }))

  pub spend_gone : (i left : ℕ) → r.found ≡ kept.Spends i left
      → list ≡ map (λ (q : Reference). q.object) (spending g.script (state_of g) i).leaves → HasGone r g g' frames
  spend_gone i left e is =
      let t = r.thread in
      let st = state_of g in
      let h : IsFoundStep g r (steps.Spends i left) = kept_as g r (kept.Spends i left) found e in
      let m = dealt_moves st t (spending g.script st i) (spend_stops g.script st i) in
      round_gone g g' frames r found entered y list moved r.found (steps.Spends i left) (spending g.script st i).answer refl (ap step_kept e) refl h tt
      (record { answer_is = m.answer_is; finals_are = m.finals_are; list_is = m.list_is ∙ sym is; stops = m.stops })

  pub call_gone : (k : CodeCallee) (c : ℕ) (info : MaybeObject) (left : ℕ) → r.found ≡ kept.Calls k c info left → list ≡ []
      → HasGone r g g' frames
  call_gone k c info left e none =
      let t = r.thread in
      let st = state_of g in
      let h : IsFoundStep g r (steps.Calls k c info left) = kept_as g r (kept.Calls k c info left) found e in
      round_gone g g' frames r found entered y list moved r.found (steps.Calls k c info left) (call_answer (callee_of k).role (activity (top_kind (frames_at t st)))) refl (ap step_kept e) refl h tt
      (record { answer_is = refl; finals_are = refl; list_is = sym none; stops = refl })

-- ---- room

module _ (g : GroundView) (frames : List Standing) (r : Reserved) (reserved : IsReserved g frames r) where
  room_as : (f : Kept) (x : Found) → r.found ≡ f → IsFoundStep g r x
      → is_retain (action_in g.script (facts_of (state_of g)) r.thread (frames_at r.thread (state_of g)) (demand_of x)) ≡ false
      → HasRoom 0 (standing_at frames r.thread)
  room_as f x e h plain = has_room g frames r x reserved h plain

  pub still_room : (f : Kept) → r.found ≡ f → IsStillFound f → HasRoom 0 (standing_at frames r.thread)
  still_room kept.Begins e still = room_as kept.Begins steps.Begins e (kept_as g r kept.Begins reserved.found e) refl
  still_room kept.Returns e still = room_as kept.Returns steps.Returns e (kept_as g r kept.Returns reserved.found e) refl
  still_room kept.Closes e still = room_as kept.Closes steps.Closes e (kept_as g r kept.Closes reserved.found e) (close_plain (frames_at r.thread (state_of g)))
    where
      close_plain : (fs : List Frame)
          → is_retain (action_in g.script (facts_of (state_of g)) r.thread fs closes) ≡ false
      close_plain fs = refl
  still_room (kept.Claims k v) e still = absurd still
  still_room (kept.Says b n used) e still = absurd still
  still_room (kept.Deals b n used) e still = absurd still
  still_room (kept.Packs u k v) e still = absurd still
  still_room kept.Ends e still = absurd still
  still_room (kept.Owes o left) e still = absurd still
  still_room (kept.Spends i left) e still = absurd still
  still_room (kept.Drops b k o left) e still = absurd still
  still_room (kept.Calls k c info left) e still = absurd still
  still_room (kept.Enters p) e still = absurd still

  enters_plain : (p : Phase)
      → is_retain (action_in g.script (facts_of (state_of g)) r.thread (frames_at r.thread (state_of g)) (enters p)) ≡ false
  enters_plain (phases.Note a) = refl
  enters_plain phases.Sources = refl
  enters_plain phases.Sleep = refl
  enters_plain phases.Timers = refl
  enters_plain phases.Test = refl
  enters_plain phases.Ran = refl

  pub enters_room : (p : Phase) → r.found ≡ kept.Enters p → HasRoom 0 (standing_at frames r.thread)
  enters_room p e = room_as (kept.Enters p) (steps.Enters p) e (kept_as g r (kept.Enters p) reserved.found e) (enters_plain p)

  pub calls_room : (k : CodeCallee) (c : ℕ) (info : MaybeObject) (left : ℕ) → r.found ≡ kept.Calls k c info left
      → HasRoom 0 (standing_at frames r.thread)
  calls_room k c info left e = room_as (kept.Calls k c info left) (steps.Calls k c info left) e (kept_as g r (kept.Calls k c info left) reserved.found e) refl

  -- room for what is listed where that may be many
  many_room : (x : Found) (n more : ℕ) → IsFoundStep g r x
      → is_retain (action_in g.script (facts_of (state_of g)) r.thread (frames_at r.thread (state_of g)) (demand_of x)) ≡ false
      → HasRoomFor r.action more (standing_at frames r.thread) → n ≤ more → HasRoom n (standing_at frames r.thread)
  many_room x n more h plain room few =
      let is = action_of_demand g.script (state_of g) r.thread r.action (demand_of x) reserved.found.acts.next h.demand in
      less_room n more (standing_at frames r.thread) few (room_for r.action more (standing_at frames r.thread) (ap is_retain (sym is) ∙ plain) room)

  pub sources_room : (n : ℕ) (h : r.found ≡ kept.Enters phases.Sources) (more : ℕ)
      → HasRoomFor r.action more (standing_at frames r.thread) → n ≤ more → HasRoom n (standing_at frames r.thread)
  sources_room n e more room few = many_room (steps.Enters phases.Sources) n more (kept_as g r (kept.Enters phases.Sources) reserved.found e) (enters_plain phases.Sources) room few

  pub spends_room : (i left n : ℕ) (h : r.found ≡ kept.Spends i left) (more : ℕ)
      → HasRoomFor r.action more (standing_at frames r.thread) → n ≤ more → HasRoom n (standing_at frames r.thread)
  spends_room i left n e more room few = many_room (steps.Spends i left) n more (kept_as g r (kept.Spends i left) reserved.found e) refl room few

-- where a thread stands, by its frames as they are lent
pub stand_told : (g : GroundView) (frames : List Standing) (t : ℕ) (f : Standing) → AreFrames g.script (state_of g) frames
    → f ≡ standing_at frames t → f.stand ≡ stand_at t (state_of g).stands
stand_told g frames t f so is = ap (λ (x : Standing). x.stand) is ∙ stand_here g.script (state_of g).stands frames t so

-- what a test answers, by where its thread stands
pub tested : (g : GroundView) (frames : List Standing) (t : ℕ) (f : Standing) (a : Answer)
    → (so : AreFrames g.script (state_of g) frames) → t < g.script.thread_count → f ≡ standing_at frames t
    → IfSome (innermost_run f.stand.frames) (λ (x : Turn). a ≡ result_answer (test_result (facts_of (state_of g)) f.thread x)) → (x : Turn) → innermost_run (frames_at t (state_of g)) ≡ Some x
    → (a ≡ (turn_step (state_of g) t x phases.Test).answer) × (◌≡◌ {A = List ℕ} [] [])
tested g frames t f a so within is told x e =
    let st = state_of g in
    let here : innermost_run f.stand.frames ≡ Some x = ap (λ (s : Stand). innermost_run s.frames) (stand_told g frames t f so is) ∙ e in
    let answer : a ≡ result_answer (test_result (facts_of st) f.thread x) = subst (λ (o : Option Turn). IfSome o (λ (y : Turn). a ≡ result_answer (test_result (facts_of st) f.thread y))) here told in
    (answer ∙ ap (λ (u : ℕ). result_answer (test_result (facts_of st) u x)) (ap (λ (q : Standing). q.thread) is ∙ so.thread t within), refl)

-- ---- what was found, by its kind

pub as_spent : (f : Kept) (i : ℕ) → IsSpends f i → (left : ℕ) × (f ≡ kept.Spends i left)
as_spent (kept.Spends j left) i h = (left, ap (λ (n : ℕ). kept.Spends n left) h)
as_spent (kept.Begins) i h = absurd h
as_spent (kept.Claims k v) i h = absurd h
as_spent (kept.Says b n used) i h = absurd h
as_spent (kept.Deals b n used) i h = absurd h
as_spent (kept.Packs u k v) i h = absurd h
as_spent kept.Ends i h = absurd h
as_spent kept.Returns i h = absurd h
as_spent (kept.Owes o left) i h = absurd h
as_spent (kept.Drops b k o left) i h = absurd h
as_spent (kept.Calls k c info left) i h = absurd h
as_spent (kept.Enters p) i h = absurd h
as_spent kept.Closes i h = absurd h

-- a call, with its handler and how many are left after it
pub record AsCall (f : Kept) (k : CodeCallee) (info : MaybeObject) : Type 0 where
  pub handler : ℕ
  pub left : ℕ
  pub is : f ≡ kept.Calls k handler info left

pub as_call : (f : Kept) (k : CodeCallee) (info : MaybeObject) → IsCallOf f k info → AsCall f k info
as_call (kept.Calls l c o left) k info h = record {
  handler = c;
  left = left;
  is = ap (λ (x : CodeCallee). kept.Calls x c o left) h.0 ∙ ap (λ (x : MaybeObject). kept.Calls k c x left) h.1;
}
as_call kept.Begins k info h = absurd h
as_call (kept.Claims l v) k info h = absurd h
as_call (kept.Says b n used) k info h = absurd h
as_call (kept.Deals b n used) k info h = absurd h
as_call (kept.Packs u l v) k info h = absurd h
as_call kept.Ends k info h = absurd h
as_call kept.Returns k info h = absurd h
as_call (kept.Owes o left) k info h = absurd h
as_call (kept.Spends i left) k info h = absurd h
as_call (kept.Drops b l o left) k info h = absurd h
as_call (kept.Enters p) k info h = absurd h
as_call kept.Closes k info h = absurd h

-- ---- the answer of a call

-- where an observer is called the innermost frame is a run; of others the answer is the same anyway
called : (g : GroundView) (t : ℕ) (k : Callee) (last : Option Phase) → (role : Role)
    → k.role ≡ role → last ≡ option_and_then (λ (x : Turn). x.last) (innermost_run (frames_at t (state_of g)))
    → (role ≡ as_observer → InnermostRun t (state_of g))
    → call_answer role (activity_of last) ≡ call_answer role (activity (top_kind (frames_at t (state_of g))))
called g t k last as_observer e is run =
    let r = run refl in
    ap (λ (o : Option Phase). call_answer as_observer (activity_of o)) (is ∙ ap (option_and_then (λ (x : Turn). x.last)) r.innermost)
    ∙ sym (ap (λ (q : Kind). call_answer as_observer (activity q)) r.top)
called g t k last as_source e is run = refl
called g t k last as_timer e is run = refl
called g t k last as_receiver e is run = refl

item_run : (facts : Facts) (t : ℕ) (kind : Kind) (role : Role) (n : ℕ) (c : Callout)
    → item_callout facts t kind role n ≡ Some c → (x : Turn) × (kind ≡ of_run x)
item_run facts t (of_run x) role n c e = (x, refl)
item_run facts t of_block role n c e = absurd cc
item_run facts t (of_handler k) role n c e = absurd cc

observer_run : (facts : Facts) (t : ℕ) (kind : Kind) (role : Role) (n : ℕ) (c : Callout)
    → callout_of facts t kind role n ≡ Some c → role ≡ as_observer → (x : Turn) × (kind ≡ of_run x)
observer_run facts t kind as_observer n c e is = item_run facts t kind as_observer n c e
observer_run facts t kind as_source n c e is = absurd cc
observer_run facts t kind as_timer n c e is = absurd cc
observer_run facts t kind as_receiver n c e is = absurd cc

-- an observer is called in a run
abbrev CallsInRun : ℕ → State → Demand → Type 0
CallsInRun t st (calls k c) = k.role ≡ as_observer → InnermostRun t st
CallsInRun t st _ = Unit {0}

frame_calls : (s : Script) (t : ℕ) (st : State) (f : Frame) (fs : List Frame) (d : Demand) → frames_at t st ≡ f ∷ fs
    → FrameView s (facts_of st) t f d → CallsInRun t st d
frame_calls s t st f fs _ e (is_call k c found) = λ is.
    let r = observer_run (facts_of st) t f.kind k.role k.number c found is in run_there t st f fs r.0 e r.1
frame_calls s t st f fs _ e (is_line x at) = tt
frame_calls s t st f fs _ e (is_end k) = tt
frame_calls s t st f fs _ e (is_return k q end) = tt
frame_calls s t st f fs _ e (is_phase r p q) = tt
frame_calls s t st f fs _ e (is_close r q) = tt

work_calls : (t : ℕ) (st : State) (facts : Facts) (work : List Work) (d : Demand) → WorkView facts work d
    → CallsInRun t st d
work_calls t st facts work _ (first_owes p first) = tt
work_calls t st facts work _ (first_spends i first) = tt
work_calls t st facts work _ (first_drops b k p left first) = tt

stand_calls : (s : Script) (t : ℕ) (st : State) (d : Demand)
    → StandView s (facts_of st) t (stand_at t st.stands) d → CallsInRun t st d
stand_calls s t st d (of_work w view) = work_calls t st (facts_of st) (stand_at t st.stands).work d view
stand_calls s t st d (of_frame f fs w q view) = frame_calls s t st f fs d q view

pub answer_called : (g : GroundView) (t : ℕ) (k : Callee) (c : Callout) (last : Option Phase)
    → demanded g.script (state_of g) t ≡ Some (calls k c)
    → last ≡ option_and_then (λ (x : Turn). x.last) (innermost_run (frames_at t (state_of g)))
    → call_answer k.role (activity_of last) ≡ called_answer g t k
answer_called g t k c last e is =
    called g t k last k.role refl is (stand_calls g.script t (state_of g) (calls k c) (stand_view g.script (facts_of (state_of g)) t (stand_at t (state_of g).stands) (calls k c) e))

-- a call gains its info and its item
pub call_gains : (g : GroundView) (t : ℕ) (k : Callee) (c : Callout)
    → demanded g.script (state_of g) t ≡ Some (calls k c)
    → gained_in g t ≡ present (c.info ∷ item_of k ∷ [])
call_gains g t k c e =
    ap (λ (o : Option Demand). gained_by (flow_if g.script t (state_of g) o)) e ∙ refs_objects t (length (frames_at t (state_of g))) c.info (item_of k)

-- ---- what is listed where that may be many

-- the items of the mode of a run fit
pub mode_fits : (g : GroundView) (r : Reserved) (more : ℕ) → r.found ≡ kept.Enters phases.Sources
    → AreMost g r.thread more r.found → FitsItems (state_of g) r.thread more (innermost_run (frames_at r.thread (state_of g)))
mode_fits g r more e h = subst (AreMost g r.thread more) e h

-- so does what an item leaves that is spent
pub leaves_fit : (g : GroundView) (r : Reserved) (i left more : ℕ) → r.found ≡ kept.Spends i left
    → AreMost g r.thread more r.found → length (spending g.script (state_of g) i).leaves ≤ more
leaves_fit g r i left more e h = subst (AreMost g r.thread more) e h

-- ---- a phase that collects nothing, as long as all items are sources

pub plain_phase : (g : GroundView) (r : Reserved) (p : Phase) → (p ≡ phases.Sources → ⊥) → (p ≡ phases.Sleep → ⊥)
    → (p ≡ phases.Test → ⊥) → r.found ≡ kept.Enters p → IsFound g r → IsPass g r.thread answers.Ok []
plain_phase g r phases.Sources a b c e found = absurd (a refl)
plain_phase g r phases.Sleep a b c e found = absurd (b refl)
plain_phase g r phases.Test a b c e found = absurd (c refl)
plain_phase g r (phases.Note n) a b c e found =
    phase_passes g r answers.Ok (phases.Note n) tt (kept_as g r (kept.Enters (phases.Note n)) found e) []
    (λ x q. (refl, sym (no_observers (state_of g).parts n (items_in (state_of g) r.thread x.mode) (sourced g.script g.journal (staged_sources g.script found.runs.stage)))))
plain_phase g r phases.Timers a b c e found =
    phase_passes g r answers.Ok phases.Timers tt (kept_as g r (kept.Enters phases.Timers) found e) []
    (λ x q. (refl, sym (no_timers (state_of g).parts (items_in (state_of g) r.thread x.mode) (sourced g.script g.journal (staged_sources g.script found.runs.stage)))))
plain_phase g r phases.Ran a b c e found =
    phase_passes g r answers.Ok phases.Ran tt (kept_as g r (kept.Enters phases.Ran) found e) [] (λ x q. (refl, refl))

-- as many as it leaves
pub spent_few : (g : GroundView) (i went more : ℕ)
    → map (λ (q : Reference). q.object) (spending g.script (state_of g) i).leaves ≡ replicate went i
    → length (spending g.script (state_of g) i).leaves ≤ more → went ≤ more
spent_few g i went more e few =
    omega (arith, few, ap length e, length-map (spending g.script (state_of g) i).leaves (λ (q : Reference). q.object), length-replicate went i)

-- the same with room in one list alone
pub lists_alone : (g : GroundView) (frames : List Standing) (m n : ℕ) (r : Reserved) → HasLists g frames m n r
    → HasLists g frames n n r
lists_alone g frames m n r h = record { more = h.more; room = h.room; gained_fits = h.list_fits; list_fits = h.list_fits; most = h.most }

-- what is neither a phase, nor a call, nor an item that is spent stays in its place
pub round_still : (f : Kept) → IsRoundFound f → ((i left : ℕ) → f ≡ kept.Spends i left → ⊥)
    → ((k : CodeCallee) (h : ℕ) (info : MaybeObject) (left : ℕ) → f ≡ kept.Calls k h info left → ⊥)
    → ((p : Phase) → f ≡ kept.Enters p → ⊥) → IsStillFound f
round_still kept.Begins h a b c = tt
round_still kept.Returns h a b c = tt
round_still kept.Closes h a b c = tt
round_still (kept.Spends i left) h a b c = absurd (a i left refl)
round_still (kept.Calls k n info left) h a b c = absurd (b k n info left refl)
round_still (kept.Enters p) h a b c = absurd (c p refl)
round_still (kept.Claims k v) h a b c = absurd h
round_still (kept.Says n m used) h a b c = absurd h
round_still (kept.Deals n m used) h a b c = absurd h
round_still (kept.Packs u k v) h a b c = absurd h
round_still kept.Ends h a b c = absurd h
round_still (kept.Owes o left) h a b c = absurd h
round_still (kept.Drops n k o left) h a b c = absurd h

-- what else there is than lines, a thread's end and what takes a reference away
pub else_round : (f : Kept) → ((k v : ℕ) → f ≡ kept.Claims k v → ⊥)
    → ((b n : ℕ) (used : Used) → f ≡ kept.Says b n used → ⊥) → ((b n : ℕ) (used : Used) → f ≡ kept.Deals b n used → ⊥)
    → ((u k : ℕ) (v : Option ℕ) → f ≡ kept.Packs u k v → ⊥) → (f ≡ kept.Ends → ⊥) → ((o left : ℕ) → f ≡ kept.Owes o left → ⊥)
    → ((b k o left : ℕ) → f ≡ kept.Drops b k o left → ⊥) → IsRoundFound f
else_round (kept.Claims k v) a b l c d e h = absurd (a k v refl)
else_round (kept.Says n m used) a b l c d e h = absurd (b n m used refl)
else_round (kept.Deals n m used) a b l c d e h = absurd (l n m used refl)
else_round (kept.Packs u k v) a b l c d e h = absurd (c u k v refl)
else_round kept.Ends a b l c d e h = absurd (d refl)
else_round (kept.Owes o left) a b l c d e h = absurd (e o left refl)
else_round (kept.Drops n k o left) a b l c d e h = absurd (h n k o left refl)
else_round kept.Begins a b l c d e h = tt
else_round kept.Returns a b l c d e h = tt
else_round kept.Closes a b l c d e h = tt
else_round (kept.Spends i left) a b l c d e h = tt
else_round (kept.Calls k n info left) a b l c d e h = tt
else_round (kept.Enters p) a b l c d e h = tt

-- ---- what takes a reference away

phase_cuts : (g : GroundView) (t : ℕ) (p : Phase) (fs : List Frame)
    → action_cut (action_in g.script (facts_of (state_of g)) t fs (enters p)) ≡ None
phase_cuts g t (phases.Note a) fs = refl
phase_cuts g t phases.Sources fs = refl
phase_cuts g t phases.Sleep fs = refl
phase_cuts g t phases.Timers fs = refl
phase_cuts g t phases.Test fs = refl
phase_cuts g t phases.Ran fs = refl

-- an action that takes a reference away is that of a statement, of a release that is owed, or of a slot
pub only_cut : (g : GroundView) (r : Reserved) (o : ℕ) (found : IsFound g r) → action_cut r.action ≡ Some o → (f : Kept)
    → Keeps_ g r f → ((b n : ℕ) (used : Used) → f ≡ kept.Says b n used → ⊥)
    → ((p left : ℕ) → f ≡ kept.Owes p left → ⊥) → ((b k p left : ℕ) → f ≡ kept.Drops b k p left → ⊥) → ⊥
only_cut g r o found cuts f h says_ owes_ drops_ = by f h says_ owes_ drops_
  where
    none : (d : Demand) → demanded g.script (state_of g) r.thread ≡ Some d
        → action_cut (action_in g.script (facts_of (state_of g)) r.thread (frames_at r.thread (state_of g)) d) ≡ None → ⊥
    none d e q =
        let is = action_of_demand g.script (state_of g) r.thread r.action d found.acts.next e in
        let both : ◌≡◌ {A = Option ℕ} (Some o) None = sym cuts ∙ ap action_cut (sym is) ∙ q in absurd cc

    by : (f : Kept) → Keeps_ g r f → ((b n : ℕ) (used : Used) → f ≡ kept.Says b n used → ⊥)
        → ((p left : ℕ) → f ≡ kept.Owes p left → ⊥) → ((b k p left : ℕ) → f ≡ kept.Drops b k p left → ⊥) → ⊥
    by kept.Begins h a b c = none (does (begins 0)) h.demand refl
    by (kept.Claims k v) h a b c = none (does (claims k v)) h.demand refl
    by (kept.Says m n used) h a b c = a m n used refl
    by (kept.Deals m n used) h a b c =
        let k = said_releases g.script r.thread (state_of g) h.statement r.action found.acts.next h.demands o cuts in
        deals_cut_none h.statement k.var h.acts k.releases
    by (kept.Packs u k v) h a b c = none (does (packs u k v)) h.demand refl
    by kept.Ends h a b c = none ends h.demand refl
    by kept.Returns h a b c = none returns h.demand refl
    by (kept.Owes p left) h a b c = b p left refl
    by (kept.Spends i left) h a b c = none (spends i) h.demand refl
    by (kept.Drops m k p left) h a b c = c m k p left refl
    by (kept.Calls k n info left) h a b c = none (calls (callee_of k) (record { handler = n; info = object_of info })) h.demand refl
    by (kept.Enters p) h a b c = none (enters p) h.demand (phase_cuts g r.thread p (frames_at r.thread (state_of g)))
    by kept.Closes h a b c = none closes h.demand refl

phase_retains : (g : GroundView) (t : ℕ) (p : Phase) (fs : List Frame)
    → retained_by (action_in g.script (facts_of (state_of g)) t fs (enters p)) ≡ None
phase_retains g t (phases.Note a) fs = refl
phase_retains g t phases.Sources fs = refl
phase_retains g t phases.Sleep fs = refl
phase_retains g t phases.Timers fs = refl
phase_retains g t phases.Test fs = refl
phase_retains g t phases.Ran fs = refl

-- an action that retains an object is that of a statement which acts on no run loop
pub only_retain : (g : GroundView) (r : Reserved) (o : ℕ) (found : IsFound g r) → retained_by r.action ≡ Some o
    → (f : Kept) → Keeps_ g r f → ((b n : ℕ) (used : Used) → f ≡ kept.Says b n used → ⊥) → ⊥
only_retain g r o found retains f h says_ = by f h says_
  where
    none : (d : Demand) → demanded g.script (state_of g) r.thread ≡ Some d
        → retained_by (action_in g.script (facts_of (state_of g)) r.thread (frames_at r.thread (state_of g)) d) ≡ None → ⊥
    none d e q =
        let is = action_of_demand g.script (state_of g) r.thread r.action d found.acts.next e in
        let both : ◌≡◌ {A = Option ℕ} (Some o) None = sym retains ∙ ap retained_by (sym is) ∙ q in absurd cc

    by : (f : Kept) → Keeps_ g r f → ((b n : ℕ) (used : Used) → f ≡ kept.Says b n used → ⊥) → ⊥
    by kept.Begins h a = none (does (begins 0)) h.demand refl
    by (kept.Claims k v) h a = none (does (claims k v)) h.demand refl
    by (kept.Says m n used) h a = a m n used refl
    by (kept.Deals m n used) h a =
        let k = said_retains g.script r.thread (state_of g) h.statement r.action found.acts.next h.demands o retains in
        deals_retain_none h.statement k.var h.acts k.retains
    by (kept.Packs u k v) h a = none (does (packs u k v)) h.demand refl
    by kept.Ends h a = none ends h.demand refl
    by kept.Returns h a = none returns h.demand refl
    by (kept.Owes p left) h a = none (owes p) h.demand refl
    by (kept.Spends i left) h a = none (spends i) h.demand refl
    by (kept.Drops m k p left) h a = none (drops m k p) h.demand refl
    by (kept.Calls k n info left) h a = none (calls (callee_of k) (record { handler = n; info = object_of info })) h.demand refl
    by (kept.Enters p) h a = none (enters p) h.demand (phase_retains g r.thread p (frames_at r.thread (state_of g)))
    by kept.Closes h a = none closes h.demand refl
