-- Along the journals of an owned script each holder holds what it is said to hold, and frames stay in order.
use Rattle.std.proofs.Common.{◌-◌, ◌<◌, ◌∷◌, ◌≡◌, Bool, List, None, Option, Some, [], ap, append-nil, arith, cond, eqb, false, inl, inr, length, ltb, map, refl, subst, suc, sym, true, zero, ℕ}
use Rattle.std.proofs.lemmas.Bool.{eq-eqb}
use Rattle.std.proofs.lemmas.Bool.Decides.{eqb_tells, nat_tests}
use Rattle.std.specs.Prelude.{slice_get}
use Rattle.cf_ids.specs.declared.answer.Answer.{Answer}
use Rattle.cf_ids.specs.declared.answer.Answer.TheVariants as answers
use Rattle.rl_turn.specs.declared.phases.Phase.{Phase}
use Rattle.cf_syntax.proofs.BlockLaws.{owned_fits}
use Rattle.cf_syntax.specs.BlockLines.{BlockLine, begins, claims, line_ownership, line_uses, packs, says}
use Rattle.cf_syntax.specs.Mentions.{ownership_of}
use Rattle.cf_syntax.specs.Owned.{FitsByBlock, Owned}
use Rattle.cf_syntax.specs.declared.script.Script.{Script}
use Rattle.cf_graph.specs.Edges.{Reference, counted, held_by, one, weigh}
use Rattle.cf_graph.specs.Flows.{Flow, shrinks, still}
use Rattle.cf_graph.specs.Holders.{callout, in_common, in_mode, owed, parcel, slot, variable}
use Rattle.cf_graph.specs.declared.edge.Owner.{Owner}
use Rattle.cf_next.specs.Advance.{advanced, bound_object, frames_after, is_entered, line_done}
use Rattle.cf_next.specs.Demands.{Demand, calls, closes, does, drops, ends, enters, frame_lines, owes, returns, spends}
use Rattle.cf_next.specs.Facts.{Facts}
use Rattle.cf_next.specs.Next.{action_in, used_objects}
use Rattle.cf_next.specs.Stands.{Frame, Kind, Stand, Work, of_block, of_handler, of_run, opening_stand, stop_stand}
use Rattle.cf_next.specs.declared.action.Action.{Action}
use Rattle.cf_next.specs.declared.action.Action.TheVariants as actions
use Rattle.cf_model.proofs.Phases.{phase_case}
use Rattle.cf_model.proofs.Acting.{demand_fits}
use Rattle.cf_model.proofs.DealLaws.{FitsDeal, invalidate_fits, quiet_fits, same_bodies}
use Rattle.cf_model.proofs.FrameOrder.{FramesFit, called_fit, fit_line, handler_balance, handler_fit, moves_on, none_owns, phase_fit, run_frames_fit, stop_fit}
use Rattle.cf_model.proofs.Keeping.{KeepsOwn, OwnHeld, all_held, stand}
use Rattle.cf_model.proofs.Leaving.{calls_keeps, close_keeps, drops_keeps, end_keeps, owes_keeps, phase_keeps, returns_keeps, spends_keeps}
use Rattle.cf_model.proofs.OwnLaws.{own_has}
use Rattle.cf_model.proofs.Owning.{Owns, owns_after}
use Rattle.cf_model.proofs.Tokens.{lines_then}
use Rattle.cf_model.proofs.Places.{objects_in}
use Rattle.cf_model.proofs.Saying.{begin_keeps, claim_keeps, pack_keeps, statement_keeps, used_live}
use Rattle.cf_model.proofs.Spending.{start_spends, step_spends}
use Rattle.cf_model.proofs.Steady.{IsSteady, start_steady, step_steady, ticked_steady}
use Rattle.cf_model.proofs.Taking.{deal_of_fits}
use Rattle.cf_model.proofs.Tokens.{at_other, at_own}
use Rattle.cf_model.specs.Tokens.{HeldAsTold, callouts_hold, frames_hold, lines_done, owed_in}
use Rattle.cf_model.proofs.Using.{IsSound, demand_may, own_held}
use Rattle.cf_model.proofs.Views.{FrameView, StandView, WorkView, first_drops, first_owes, first_spends, idle_owed, is_call, is_close, is_end, is_line, is_phase, is_return, of_frame, of_work, stand_view}
use Rattle.cf_model.specs.Deals.{Deal, okay}
use Rattle.cf_model.specs.Journals.{After, MayUseAll, action_uses, after_action, owners_of, state_from, ticked, uses_of}
use Rattle.cf_model.specs.Known.{facts_of}
use Rattle.cf_model.specs.Own.{own_reference}
use Rattle.cf_model.specs.State.{State, at_or, blank, stand_at, start, threads_of, with_stand}
use Rattle.cf_model.specs.Steps.{Step, acted, close_step, cut_flow, demanded, done_by, flowing, idle, phase_step, spend_if, stand_after, step_answer, step_finals, step_of, stopped_at}
use Rattle.cf_model.specs.Things.{Thing, thing_at}
use Rattle.cf_model.specs.declared.entry.Entry.{Entry}

-- ---- frames stay in order

line_fit : (c : Script) (facts : Facts) (t : ℕ) (x : BlockLine) (answer : Answer) (list : List ℕ) (f : Frame)
    → FitsByBlock c → slice_get (frame_lines c f.kind f.block) f.number ≡ Some x → Owns (lines_done c f) f.bindings
    → Owns (lines_done c (line_done facts t x answer list f)) (line_done facts t x answer list f).bindings
line_fit c facts t x answer list f own at owns =
    (owns_after x (lines_done c f) f.bindings owns (lines_then c f x answer) (moves_on c f x own at answer) (line_ownership x) (bound_object facts t answer x) refl (fit_line c f x own at).ownership).owns

-- the frames after a demand
demand_fit : (c : Script) (facts : Facts) (t : ℕ) (d : Demand) (answer : Answer) (list : List ℕ) (f : Frame)
    (fs : List Frame)
    → FitsByBlock c → FramesFit c (f ∷ fs) → FrameView c facts t f d
    → FramesFit c (frames_after facts t d answer list (f ∷ fs))
demand_fit c facts t _ answer list f fs own fits (is_call k called found) = (handler_fit c k called, (called_fit c facts t k.role f fits.0, fits.1))
demand_fit c facts t _ answer list f fs own fits (is_line x at) =
    run_frames_fit c facts.time x (is_entered answer) (line_done facts t x answer list f ∷ fs) (line_fit c facts t x answer list f own at fits.0, fits.1)
demand_fit c facts t _ answer list f fs own fits (is_end e) = fits
demand_fit c facts t _ answer list f fs own fits (is_return k e end) = fits.1
demand_fit c facts t _ answer list f fs own fits (is_phase r p e) = (phase_fit c facts t p list f fits.0, fits.1)
demand_fit c facts t _ answer list f fs own fits (is_close r e) = fits.1

work_fit : (c : Script) (facts : Facts) (t : ℕ) (d : Demand) (answer : Answer) (list : List ℕ) (work : List Work)
    (fs : List Frame)
    → FramesFit c fs → WorkView facts work d → FramesFit c (frames_after facts t d answer list fs)
work_fit c facts t _ answer list work fs fits (first_owes o first) = fits
work_fit c facts t _ answer list work fs fits (first_spends i first) = fits
work_fit c facts t _ answer list work fs fits (first_drops b k o left first) = fits

frames_fit : (c : Script) (facts : Facts) (t : ℕ) (d : Demand) (answer : Answer) (list : List ℕ) (s : Stand)
    → FitsByBlock c → FramesFit c s.frames → StandView c facts t s d
    → FramesFit c (frames_after facts t d answer list s.frames)
frames_fit c facts t d answer list s own fits (of_work w view) = work_fit c facts t d answer list s.work s.frames fits view
frames_fit c facts t d answer list s own fits (of_frame f fs idle e view) =
    subst (λ (gs : List Frame). FramesFit c (frames_after facts t d answer list gs)) (sym e) (demand_fit c facts t d answer list f fs own (subst (FramesFit c) e fits) view)

stopped_fit : (c : Script) (stops : Option ℕ) (ss : List Stand) → ((u : ℕ) → FramesFit c (stand_at u ss).frames)
    → (u : ℕ) → FramesFit c (stand_at u (stopped_at stops ss)).frames
stopped_fit c None ss h u = h u
stopped_fit c (Some w) ss h u = elim (eqb_tells u w) [
  | inl e ↦ subst (λ (n : ℕ). FramesFit c (stand_at n (stopped_at (Some w) ss)).frames) (sym e.1) (subst (λ (s : Stand). FramesFit c s.frames) (sym (at_own blank w (stop_stand (stand_at w ss)) ss)) (stop_fit c (stand_at w ss).frames (h w)))
  | inr e ↦ subst (λ (s : Stand). FramesFit c s.frames) (sym (at_other blank u w (stop_stand (stand_at w ss)) ss e.1)) (h u)
]

all_fit : (c : Script) (t : ℕ) (new : Stand) (ss : List Stand) → FramesFit c new.frames
    → ((u : ℕ) → FramesFit c (stand_at u ss).frames) → (u : ℕ) → FramesFit c (stand_at u (with_stand t new ss)).frames
all_fit c t new ss mine h u = elim (eqb_tells u t) [
  | inl e ↦ subst (λ (n : ℕ). FramesFit c (stand_at n (with_stand t new ss)).frames) (sym e.1) (subst (λ (s : Stand). FramesFit c s.frames) (sym (at_own blank t new ss)) mine)
  | inr e ↦ subst (λ (s : Stand). FramesFit c s.frames) (sym (at_other blank u t new ss e.1)) (h u)
]

-- ---- steps that do nothing to references

phase_still : (st : State) (t : ℕ) (p : Phase) (k : Kind) → (phase_step st t p k).flow ≡ still
phase_still st t p k = phase_case (λ (s : Step). s.flow ≡ still) st t p k (record { woken = refl; due = refl; sleeps = λ d. refl; tests = λ r. refl; collects = λ l. refl })

close_still : (st : State) (k : Kind) → (close_step st k).flow ≡ still
close_still st (of_run r) = refl
close_still st of_block = refl
close_still st (of_handler k) = refl

pub spend_places : (c : Script) (st : State) (i : ℕ) → FitsDeal st (spend_if c st i (thing_at st.parts i))
spend_places c st i = by (thing_at st.parts i)
  where
    either : (b : Bool) (x y : Deal) → FitsDeal st x → FitsDeal st y → FitsDeal st (cond b x y)
    either true x y h k = h
    either false x y h k = k

    by : (x : Option Thing) → FitsDeal st (spend_if c st i x)
    by None = quiet_fits st (okay st.parts) refl refl (same_bodies st)
    by (Some x) = either x.valid _ _ (invalidate_fits c st i x) (quiet_fits st (okay st.parts) refl refl (same_bodies st))

-- ---- what a demand keeps

abbrev DemandKept : Script → ℕ → State → List Work → Bool → Demand → List Frame → Type 0
DemandKept c t st work done d fs =
    let step = step_of c t st fs d in
    let old : Stand = record { frames = fs; work = work; is_done = done } in
    KeepsOwn c t old step.flow (advanced (facts_of st) t d (step_answer step st) (step_finals step st) step.list old)

module _ (c : Script) (t : ℕ) (st : State) (own : FitsByBlock c) (h : IsSteady st) where
  still_flow : (old new : Stand) (step : Step) → step.flow ≡ still → KeepsOwn c t old still new
      → KeepsOwn c t old step.flow new
  still_flow old new step e k = subst (λ (fl : Flow). KeepsOwn c t old fl new) (sym e) k

  work_kept : (s : Stand) (d : Demand) → OwnHeld c t st.edges s → WorkView (facts_of st) s.work d
      → DemandKept c t st s.work s.is_done d s.frames
  work_kept s _ held (first_owes o first) =
      let here : own_reference t (owed t) o st.edges ≡ Some (held_by (owed t) o) = own_has t (owed t) o st.edges (some_has (weigh (one (held_by (owed t) o)) st.edges) (let one_here : counted (eqb o o) ≡ 1 = ap counted (eq-eqb o o refl) in omega (arith, one_here, held.owed o, first o))) in
      let cut = flowing st answers.Ok (shrinks (held_by (owed t) o)) in
      subst (λ (q : Option Reference). let step = flowing st answers.Ok (cut_flow q) in KeepsOwn c t s step.flow (advanced (facts_of st) t (owes o) (step_answer step st) (step_finals step st) step.list s)) (sym here)
      (owes_keeps c (facts_of st) t s o (step_answer cut st) (step_finals cut st) [] first)
    where
      some_has : (n : ℕ) → 0 < n → ltb 0 n ≡ true
      some_has n h = grind (arith, nat_tests)
  work_kept s _ held (first_spends i first) =
      let step = step_of c t st s.frames (spends i) in
      let deal = spend_if c st i (thing_at st.parts i) in
      let fits = spend_places c st i in
      spends_keeps c (facts_of st) t s i (step_answer step st) (step_finals step st) step.list deal.enters deal.leaves fits.ins fits.outs (append-nil (objects_in deal.leaves)) first
  work_kept s _ held (first_drops b k o left first) =
      let step = step_of c t st s.frames (drops b k o) in
      drops_keeps c (facts_of st) t s b k o (step_answer step st) (step_finals step st) [] first

  line_kept : (f : Frame) (fs : List Frame) (work : List Work) (done : Bool) (x : BlockLine)
      → OwnHeld c t st.edges (stand f fs work done) → Owns (lines_done c f) f.bindings → ((o : ℕ) → owed_in o work ≡ 0)
      → slice_get (frame_lines c f.kind f.block) f.number ≡ Some x → DemandKept c t st work done (does x) (f ∷ fs)
  line_kept f fs work done (says x) held owns idle at =
      let fit = fit_line c f (says x) own at in
      let used = used_objects f.bindings (says x) in
      let vs = line_uses (says x) in
      statement_keeps c t st f fs work done held owns idle x fit (moves_on c f (says x) own at) (ownership_of x) refl
      (deal_of_fits c t st h x used (λ unskipped. used_live c t st f fs work done held owns idle h.balance vs (3 - length vs) fit.uses))
  line_kept f fs work done (claims k v) held owns idle at =
      claim_keeps c t st f fs work done held owns idle k v (fit_line c f (claims k v) own at) (moves_on c f (claims k v) own at)
  line_kept f fs work done (packs u k v) held owns idle at =
      pack_keeps c t st f fs work done held owns idle u k v (fit_line c f (packs u k v) own at) (moves_on c f (packs u k v) own at)
  line_kept f fs work done (begins v) held owns idle at =
      begin_keeps c t st f fs work done held owns idle v (fit_line c f (begins v) own at) (moves_on c f (begins v) own at)

  frame_kept : (f : Frame) (fs : List Frame) (work : List Work) (done : Bool) (d : Demand)
      → OwnHeld c t st.edges (stand f fs work done) → Owns (lines_done c f) f.bindings → ((o : ℕ) → owed_in o work ≡ 0)
      → FrameView c (facts_of st) t f d → DemandKept c t st work done d (f ∷ fs)
  frame_kept f fs work done _ held owns idle (is_call k called found) =
      let step = step_of c t st (f ∷ fs) (calls k called) in
      calls_keeps c (facts_of st) t f fs work done k called (step_answer step st) (step_finals step st) [] idle
  frame_kept f fs work done _ held owns idle (is_line x at) = line_kept f fs work done x held owns idle at
  frame_kept f fs work done _ held owns idle (is_end e) =
      let step = step_of c t st (f ∷ fs) ends in
      end_keeps c (facts_of st) t f fs work done idle (step_answer step st) (step_finals step st) []
  frame_kept f fs work done _ held owns idle (is_return k e end) =
      let step = step_of c t st (f ∷ fs) returns in
      returns_keeps c (facts_of st) t st.edges f fs work done held (handler_balance c f k own e end) (step_answer step st) (step_finals step st) [] idle
  frame_kept f fs work done _ held owns idle (is_phase r p e) =
      let step = step_of c t st (f ∷ fs) (enters p) in
      let s = stand f fs work done in
      still_flow s (advanced (facts_of st) t (enters p) (step_answer step st) (step_finals step st) step.list s) step (phase_still st t p f.kind)
      (phase_keeps c (facts_of st) t f fs work done idle p (step_answer step st) (step_finals step st) step.list)
  frame_kept f fs work done _ held owns idle (is_close r e) =
      let step = step_of c t st (f ∷ fs) closes in
      let s = stand f fs work done in
      still_flow s (advanced (facts_of st) t closes (step_answer step st) (step_finals step st) step.list s) step (close_still st f.kind)
      (close_keeps c (facts_of st) t f fs work done idle r (step_answer step st) (step_finals step st) step.list e)

  pub demand_kept : (s : Stand) (d : Demand) → OwnHeld c t st.edges s → FramesFit c s.frames
      → StandView c (facts_of st) t s d → DemandKept c t st s.work s.is_done d s.frames
  demand_kept s d held fits (of_work w view) = work_kept s d held view
  demand_kept s d held fits (of_frame f fs idle e view) =
      let held_top = subst (λ (gs : List Frame). OwnHeld c t st.edges (record { frames = gs; work = s.work; is_done = s.is_done })) e held in
      let fits_top = subst (FramesFit c) e fits in
      subst (DemandKept c t st s.work s.is_done d) (sym e) (frame_kept f fs s.work s.is_done d held_top fits_top.0 (λ o. idle_owed (facts_of st) s.work o idle) view)

-- ---- a step

-- an entry that is skipped uses nothing
pub uses_at_most : (st : State) (t : ℕ) (owners : List Owner) (a : Action) (answer : Answer)
    → MayUseAll st t owners (action_uses a) → MayUseAll st t owners (uses_of a answer)
uses_at_most st t owners a answers.Skip h = tt
uses_at_most st t owners a answer h = h

pub demand_sound : (c : Script) (t : ℕ) (st : State) (d : Demand) → FitsByBlock c → IsSound c st
    → demanded c st t ≡ Some d → IsSound c (done_by c t st d)
demand_sound c t st d own h e =
    let s = stand_at t st.stands in
    let step = step_of c t st s.frames d in
    let mine = own_held c st t h.held in
    let view = stand_view c (facts_of st) t s d e in
    let a = action_in c (facts_of st) t s.frames d in
    let fits = demand_fits c t st d h.steady e (uses_at_most st t (owners_of a) a (step_answer step st) (demand_may c t st h own d e)) in
    let new = stand_after t d step st in
    record {
      held = all_held c t st d step h.held fits (demand_kept c t st own h.steady s d mine (h.frames t) view);
      frames = stopped_fit c step.stops (with_stand t new st.stands) (all_fit c t new st.stands (frames_fit c (facts_of st) t d (step_answer step st) step.list s own (h.frames t) view) h.frames);
      steady = step_steady t d st step h.steady fits;
      spent = step_spends t d step st h.spent;
    }

-- ---- along a journal

acted_sound : (c : Script) (t : ℕ) (st : State) (d : Option Demand) → FitsByBlock c → IsSound c st → demanded c st t ≡ d
    → IsSound c (acted c t st d)
acted_sound c t st None own h e = h
acted_sound c t st (Some d) own h e = demand_sound c t st d own h e

ticked_sound : (c : Script) (n : ℕ) (st : State) → IsSound c st → IsSound c (ticked n st)
ticked_sound c n st h = record { held = held; frames = h.frames; steady = ticked_steady n st h.steady; spent = h.spent }
  where
    held : HeldAsTold c (ticked n st)
    held (variable t d v) o = h.held (variable t d v) o
    held (callout t d) o = h.held (callout t d) o
    held (owed t) o = h.held (owed t) o
    held (slot b) o = h.held (slot b) o
    held (parcel t k) o = refl
    held (in_mode t m) o = refl
    held (in_common t) o = refl

-- what an action does keeps all: no legality is asked for, since what is done is what the thread demands
pub entry_sound : (c : Script) (t : ℕ) (st : State) (a : Action) → FitsByBlock c → IsSound c st
    → IsSound c (after_action c t st a)
entry_sound c t st (actions.Tick n) own h = ticked_sound c n st h
entry_sound c t st actions.Stall own h = h
entry_sound c t st a own h = acted_sound c t st (demanded c st t) own h refl

pub sound_from : (c : Script) (st : State) (es : List Entry) → FitsByBlock c → IsSound c st
    → IsSound c (state_from c st es)
sound_from c st [] own h = h
sound_from c st (e ∷ es) own h = sound_from c (after_action c e.thread st e.action) es own (entry_sound c e.thread st e.action own h)

-- ---- the start

opening_fits : (c : Script) (ts : List ℕ) (u : ℕ) → FramesFit c (at_or blank u (map opening_stand ts)).frames
opening_fits c [] zero = tt
opening_fits c [] (suc u) = tt
opening_fits c (t ∷ ts) zero = (none_owns, tt)
opening_fits c (t ∷ ts) (suc u) = opening_fits c ts u

either_none : (b : Bool) → ◌≡◌ {A = ℕ} (cond b 0 0) 0
either_none true = refl
either_none false = refl

opening_holds_none : (c : Script) (ts : List ℕ) (u d v o : ℕ)
    → frames_hold c (at_or blank u (map opening_stand ts)).frames d v o ≡ 0
opening_holds_none c [] zero d v o = refl
opening_holds_none c [] (suc u) d v o = refl
opening_holds_none c (t ∷ ts) zero d v o = either_none (eqb 0 d)
opening_holds_none c (t ∷ ts) (suc u) d v o = opening_holds_none c ts u d v o

opening_calls_none : (ts : List ℕ) (u d o : ℕ) → callouts_hold (at_or blank u (map opening_stand ts)).frames d o ≡ 0
opening_calls_none [] zero d o = refl
opening_calls_none [] (suc u) d o = refl
opening_calls_none (t ∷ ts) zero d o = either_none (eqb 0 d)
opening_calls_none (t ∷ ts) (suc u) d o = opening_calls_none ts u d o

opening_owes_none : (ts : List ℕ) (u o : ℕ) → owed_in o (at_or blank u (map opening_stand ts)).work ≡ 0
opening_owes_none [] zero o = refl
opening_owes_none [] (suc u) o = refl
opening_owes_none (t ∷ ts) zero o = refl
opening_owes_none (t ∷ ts) (suc u) o = opening_owes_none ts u o

pub start_sound : (c : Script) → IsSound c (start c)
start_sound c = record {
  held = held;
  frames = opening_fits c (threads_of c);
  steady = start_steady c;
  spent = start_spends c;
}
  where
    held : HeldAsTold c (start c)
    held (variable t d v) o = sym (opening_holds_none c (threads_of c) t d v o)
    held (callout t d) o = sym (opening_calls_none (threads_of c) t d o)
    held (owed t) o = sym (opening_owes_none (threads_of c) t o)
    held (slot zero) o = refl
    held (slot (suc b)) o = refl
    held (parcel t k) o = refl
    held (in_mode t m) o = refl
    held (in_common t) o = refl

-- after every list of entries of an owned script all is sound
pub sound : (c : Script) (es : List Entry) → Owned c → IsSound c (After c es)
sound c es own = sound_from c (start c) es (owned_fits c own) (start_sound c)
