-- Below the frames of handlers and of runs a thread has the frame of its block; so a thread that is not done demands
-- something.
use Rattle.std.proofs.Common.{◌≡◌, ℕ, zero, suc, ◌+◌, ◌<◌, Bool, true, false, cond, List, [], ◌∷◌, ◌++◌, map, Option, Some, None, refl, sym, ap, ◌∙◌, subst, arith, inl, inr}
use Rattle.std.specs.Prelude.{◌||◌}
use Rattle.std.specs.List.{range_with_len}
use Rattle.std.proofs.lemmas.Bool.Decides.{eqb_tells}
use Rattle.cf_ids.specs.declared.answer.Answer.{Answer}
use Rattle.rl_turn.specs.declared.phases.Phase.{Phase}
use Rattle.cf_syntax.specs.declared.script.Script.{Script}
use Rattle.cf_next.specs.Facts.{Facts}
use Rattle.cf_next.specs.Stands.{Binding, Callee, Role, Kind, of_block, of_handler, of_run, Frame, Stand, opening_stand, stop_frames, stop_stand}
use Rattle.cf_next.specs.Turns.{kind_after}
use Rattle.cf_next.specs.Demands.{Demand, returns, or_else, work_demand, frame_demand, demand}
use Rattle.cf_next.specs.Advance.{call_done, frames_after, is_entered, kind_called, line_done, on_top, phase_done, run_frames}
use Rattle.cf_next.specs.declared.action.Action.{Action}
use Rattle.cf_next.specs.declared.action.Action.TheVariants as actions
use Rattle.cf_model.specs.declared.entry.Entry.{Entry}
use Rattle.cf_model.specs.State.{State, blank, stand_at, start, with_stand}
use Rattle.cf_model.specs.Known.{facts_of}
use Rattle.cf_model.specs.Steps.{acted, demanded, frames_at, stand_after, step_answer, step_of, stopped_at}
use Rattle.cf_model.specs.Journals.{After, after_action, state_from}
use Rattle.cf_model.proofs.Tokens.{at_other, at_own, frame}
use Rattle.cf_model.proofs.Views.{FrameView, StandView, WorkView, first_drops, first_owes, first_spends, is_call, is_close, is_end, is_line, is_phase, is_return, of_frame, of_work, stand_view}

-- the frame of a block, and one of the frames is it
abbrev pub is_block : Kind → Bool
is_block of_block = true
is_block (of_handler k) = false
is_block (of_run r) = false

abbrev pub has_block : List Frame → Bool
has_block [] = false
has_block (f ∷ fs) = is_block f.kind || has_block fs

abbrev pub HasBlock : Stand → Type 0
HasBlock s = has_block s.frames ≡ true

-- ---- a thread that has its block's frame and is not done demands something

or_last : (o : Option Demand) (d : Demand) → or_else o (Some d) ≡ None → ⊥
or_last None d e = cc
or_last (Some c) d e = cc

frames_demand : (s : Script) (facts : Facts) (t : ℕ) (fs : List Frame) → has_block fs ≡ true
    → frame_demand s facts t fs ≡ None → ⊥
frames_demand s facts t [] h e = cc
frames_demand s facts t (f ∷ fs) h e = or_last _ _ e

or_other : (o p : Option Demand) → or_else o p ≡ None → p ≡ None
or_other None p e = e
or_other (Some d) p e = absurd cc

pub going_demands : (s : Script) (facts : Facts) (t : ℕ) (stand : Stand) → HasBlock stand → stand.is_done ≡ false
    → demand s facts t stand ≡ None → ⊥
going_demands s facts t stand h going e =
    let asks = or_else (work_demand facts stand.work) (frame_demand s facts t stand.frames) in
    frames_demand s facts t stand.frames h
    (or_other (work_demand facts stand.work) (frame_demand s facts t stand.frames) (ap (λ (b : Bool). cond b None asks) (sym going) ∙ e))

-- ---- frames that are changed

or_true : (a : Bool) → (a || true) ≡ true
or_true true = refl
or_true false = refl

or_second : (a b : Bool) → a ≡ false → (a || b) ≡ true → b ≡ true
or_second true b e h = absurd cc
or_second false b e h = h

on_top_keeps : (g : Frame → Frame) → ((f : Frame) → is_block (g f).kind ≡ is_block f.kind) → (fs : List Frame)
    → has_block (on_top g fs) ≡ has_block fs
on_top_keeps g h [] = refl
on_top_keeps g h (f ∷ fs) = ap (λ (b : Bool). b || has_block fs) (h f)

more_keep : (fs gs : List Frame) → has_block gs ≡ true → has_block (fs ++ gs) ≡ true
more_keep [] gs h = h
more_keep (f ∷ fs) gs h = ap (λ (b : Bool). is_block f.kind || b) (more_keep fs gs h) ∙ or_true (is_block f.kind)

called_kind : (role : Role) (k : Kind) → is_block (kind_called role k) ≡ is_block k
called_kind role of_block = refl
called_kind role (of_handler q) = refl
called_kind role (of_run r) = refl

phase_kind : (facts : Facts) (t : ℕ) (p : Phase) (k : Kind) → is_block (kind_after facts t p k) ≡ is_block k
phase_kind facts t p of_block = refl
phase_kind facts t p (of_handler q) = refl
phase_kind facts t p (of_run r) = refl

stop_by : (k : Kind) (b n : ℕ) (bs : List Binding) (cs : List Callee) (fs : List Frame)
    → has_block (stop_frames fs) ≡ has_block fs
    → has_block (stop_frames (frame k b n bs cs ∷ fs)) ≡ has_block (frame k b n bs cs ∷ fs)
stop_by of_block b n bs cs fs e = refl
stop_by (of_handler q) b n bs cs fs e = e
stop_by (of_run r) b n bs cs fs e = refl

stop_keeps : (fs : List Frame) → has_block (stop_frames fs) ≡ has_block fs
stop_keeps [] = refl
stop_keeps (f ∷ fs) = stop_by f.kind f.block f.number f.bindings f.collected fs (stop_keeps fs)

-- ---- the frames after an entry

module _ (s : Script) (facts : Facts) (t : ℕ) (answer : Answer) (list : List ℕ) where
  -- the innermost frame is taken away
  popped : (fs : List Frame) (f : Frame) (gs : List Frame) → fs ≡ f ∷ gs → is_block f.kind ≡ false
      → has_block fs ≡ true → has_block (frames_after facts t returns answer list fs) ≡ true
  popped fs f gs same not h =
      subst (λ (xs : List Frame). has_block xs ≡ true → has_block (frames_after facts t returns answer list xs) ≡ true) (sym same)
      (λ has. or_second (is_block f.kind) (has_block gs) not has) h

  frame_keeps : (fs : List Frame) (f : Frame) (gs : List Frame) (d : Demand) → fs ≡ f ∷ gs → FrameView s facts t f d
      → has_block fs ≡ true → has_block (frames_after facts t d answer list fs) ≡ true
  frame_keeps fs f gs _ same (is_call k c e) h = on_top_keeps (call_done facts t k.role) (λ x. called_kind k.role x.kind) fs ∙ h
  frame_keeps fs f gs _ same (is_line x e) h =
      more_keep (run_frames facts.time x (is_entered answer)) (on_top (line_done facts t x answer list) fs)
      (on_top_keeps (line_done facts t x answer list) (λ y. refl) fs ∙ h)
  frame_keeps fs f gs _ same (is_end e) h = h
  frame_keeps fs f gs _ same (is_return k e end) h = popped fs f gs same (ap is_block e) h
  frame_keeps fs f gs _ same (is_phase r p e) h = on_top_keeps (phase_done facts t p list) (λ x. phase_kind facts t p x.kind) fs ∙ h
  frame_keeps fs f gs _ same (is_close r e) h = popped fs f gs same (ap is_block e) h

  work_keeps : (stand : Stand) (d : Demand) → WorkView facts stand.work d → HasBlock stand
      → has_block (frames_after facts t d answer list stand.frames) ≡ true
  work_keeps stand _ (first_owes o e) h = h
  work_keeps stand _ (first_spends i e) h = h
  work_keeps stand _ (first_drops b k o slot e) h = h

  stand_keeps : (stand : Stand) (d : Demand) → StandView s facts t stand d → HasBlock stand
      → has_block (frames_after facts t d answer list stand.frames) ≡ true
  stand_keeps stand d (of_work e view) h = work_keeps stand d view h
  stand_keeps stand d (of_frame f fs idle same view) h = frame_keeps stand.frames f fs d same view h

-- ---- all threads

-- each of so many threads has the frame of its block
abbrev AllHave : ℕ → List Stand → Type 0
AllHave n ss = (u : ℕ) → u < n → HasBlock (stand_at u ss)

put_keeps : (n t : ℕ) (new : Stand) (ss : List Stand) → (t < n → HasBlock new) → AllHave n ss
    → AllHave n (with_stand t new ss)
put_keeps n t new ss own h u lt = elim (eqb_tells u t) [
  | inl same ↦ subst (λ (v : ℕ). HasBlock (stand_at v (with_stand t new ss))) (sym same.1) (subst HasBlock (sym (at_own blank t new ss)) (own (subst (λ (v : ℕ). v < n) same.1 lt)))
  | inr other ↦ subst HasBlock (sym (at_other blank u t new ss other.1)) (h u lt)
]

stopped_keeps : (n : ℕ) (stops : Option ℕ) (ss : List Stand) → AllHave n ss → AllHave n (stopped_at stops ss)
stopped_keeps n None ss h = h
stopped_keeps n (Some w) ss h =
    put_keeps n w (stop_stand (stand_at w ss)) ss (λ lt. stop_keeps (stand_at w ss).frames ∙ h w lt) h

module _ (s : Script) (n t : ℕ) (st : State) where
  acted_keeps : (d : Option Demand) → demanded s st t ≡ d → AllHave n st.stands → AllHave n (acted s t st d).stands
  acted_keeps None e h = h
  acted_keeps (Some d) e h =
      let step = step_of s t st (frames_at t st) d in
      let new = stand_after t d step st in
      let view = stand_view s (facts_of st) t (stand_at t st.stands) d e in
      stopped_keeps n step.stops (with_stand t new st.stands)
      (put_keeps n t new st.stands (λ lt. stand_keeps s (facts_of st) t (step_answer step st) step.list (stand_at t st.stands) d view (h t lt)) h)

  entry_keeps : (a : Action) → AllHave n st.stands → AllHave n (after_action s t st a).stands
  entry_keeps (actions.Tick time) h = h
  entry_keeps actions.Stall h = h
  entry_keeps a h = acted_keeps (demanded s st t) refl h

keeps_from : (s : Script) (n : ℕ) (st : State) (es : List Entry) → AllHave n st.stands
    → AllHave n (state_from s st es).stands
keeps_from s n st [] h = h
keeps_from s n st (e ∷ es) h = keeps_from s n (after_action s e.thread st e.action) es (entry_keeps s n e.thread st e.action h)

opening_has : (a n u : ℕ) → u < n → HasBlock (stand_at u (map opening_stand (range_with_len a n)))
opening_has a zero u lt = absurd (omega (arith, lt))
opening_has a (suc n) zero lt = refl
opening_has a (suc n) (suc u) lt = opening_has (a + 1) n u (omega (arith, lt))

pub block_stays : (s : Script) (es : List Entry) (t : ℕ) → t < s.thread_count → HasBlock (stand_at t (After s es).stands)
block_stays s es t lt = keeps_from s s.thread_count (start s) es (λ u. opening_has 0 s.thread_count u) t lt

-- a thread that is not done demands something
pub demands_until_done : (s : Script) (es : List Entry) (t : ℕ) → t < s.thread_count
    → (stand_at t (After s es).stands).is_done ≡ false → demanded s (After s es) t ≡ None → ⊥
demands_until_done s es t lt going e =
    going_demands s (facts_of (After s es)) t (stand_at t (After s es).stands) (block_stays s es t lt) going e
