-- A place of a parcel has one reference at most: only a line of setup brings it one, and setup has one such line.
use Rattle.std.proofs.Common.{◌≡◌, ℕ, zero, suc, ◌+◌, ◌≤◌, ◌∙◌, Bool, true, List, [], ◌∷◌, ◌++◌, map, take, Option, Some, None, refl, sym, ap, subst, arith, inl, inr}
use Rattle.std.proofs.lemmas.Bool.Decides.{eqb_tells}
use Rattle.std.specs.Prelude.{slice_get}
use Rattle.std.specs.List.{range_with_len}
use Rattle.cf_ids.specs.declared.answer.Answer.{Answer}
use Rattle.rl_turn.specs.declared.phases.Phase.{Phase}
use Rattle.cf_syntax.specs.declared.script.Script.{Script}
use Rattle.cf_syntax.specs.declared.statement.Statement.TheVariants as forms
use Rattle.cf_syntax.specs.BlockLines.{BlockLine, says, setup_lines, thread_lines}
use Rattle.cf_syntax.proofs.PackLaws.{threads_pack_nothing, handlers_pack_nothing}
use Rattle.cf_graph.specs.Holders.{Holder, parcel}
use Rattle.cf_graph.specs.Edges.{weigh, same}
use Rattle.cf_next.specs.Facts.{Facts, Callout}
use Rattle.cf_next.specs.Stands.{Binding, Role, Callee, Turn, Kind, of_block, of_handler, of_run, Frame, Stand, opening_stand, stop_frames, stop_stand}
use Rattle.cf_next.specs.Turns.{kind_after}
use Rattle.cf_next.specs.Demands.{Demand, does, ends, returns, owes, spends, drops, calls, enters, closes, frame_lines}
use Rattle.cf_next.specs.Advance.{run_frames, line_done, is_entered, kind_called, frames_after}
use Rattle.cf_next.specs.declared.action.Action.{Action}
use Rattle.cf_model.specs.declared.entry.Entry.{Entry}
use Rattle.cf_model.specs.State.{State, blank, stand_at, with_stand, start}
use Rattle.cf_model.specs.Known.{facts_of}
use Rattle.cf_model.specs.Steps.{Step, found, step_of, step_answer, stand_after, stopped_at, frames_at, demanded, done_by, acted}
use Rattle.cf_model.specs.Journals.{after_action, state_from, After}
use Rattle.cf_model.specs.Parcels.{from_holder, HasOneAtMost}
use Rattle.cf_model.proofs.Tokens.{at_own, at_other, frame}
use Rattle.cf_model.proofs.Entries.{ActionView, is_tick, is_stall, is_step, action_view}
use Rattle.cf_model.proofs.Views.{FrameView, StandView, WorkView, first_drops, first_owes, first_spends, is_call, is_close, is_end, is_line, is_phase, is_return, of_frame, of_work, stand_view}
use Rattle.cf_model.proofs.Winning.{flowed_le}
use Rattle.cf_model.proofs.FirstHeld.{one_at_most}
use Rattle.cf_model.proofs.ParcelSteps.{packed_by, demand_wins}
use Rattle.cf_model.proofs.PackedLines.{packed, packed_next, packed_part, no_pack_line, setup_packs_once}

-- ---- the frame of a thread's block

-- a frame of a block is of the thread's own block
abbrev OwnBlock : ℕ → Kind → ℕ → Type 0
OwnBlock t of_block b = b ≡ t
OwnBlock t (of_handler k) b = Unit {0}
OwnBlock t (of_run r) b = Unit {0}

abbrev pub OwnBlocks : ℕ → List Frame → Type 0
OwnBlocks t [] = Unit {0}
OwnBlocks t (f ∷ fs) = OwnBlock t f.kind f.block × OwnBlocks t fs

-- how many lines of its block a thread has done
abbrev number_on : Kind → (number below : ℕ) → ℕ
number_on of_block n below = n
number_on (of_handler k) n below = below
number_on (of_run r) n below = below

abbrev pub base_number : List Frame → ℕ
base_number [] = 0
base_number (f ∷ fs) = number_on f.kind f.number (base_number fs)

-- what setup has packed for a holder, with these frames
abbrev pub packed_so_far : Script → Holder → List Frame → ℕ
packed_so_far s h fs = packed h (take (base_number fs) (setup_lines s))

-- the frames after a demand: they have packed what they had, and what the demand packs
record FramesGo (s : Script) (t : ℕ) (d : Demand) (fs gs : List Frame) : Type 0 where
  blocks : OwnBlocks t gs
  setup : t ≡ 0 → (h : Holder) → packed_so_far s h fs + packed_by h d ≤ packed_so_far s h gs
  other : (t ≡ 0 → ⊥) → (h : Holder) → packed_by h d ≡ 0

quiet_go : (s : Script) (t : ℕ) (d : Demand) (fs gs : List Frame) → OwnBlocks t gs → ((h : Holder) → packed_by h d ≡ 0)
    → base_number gs ≡ base_number fs → FramesGo s t d fs gs
quiet_go s t d fs gs blocks none same = record {
  blocks = blocks;
  setup = λ e h. omega (arith, none h, ap (λ (n : ℕ). packed h (take n (setup_lines s))) same);
  other = λ e h. none h;
}

module _ (s : Script) (facts : Facts) (t : ℕ) (answer : Answer) (list : List ℕ) where
  run_blocks : (x : BlockLine) (b : Bool) (gs : List Frame) → OwnBlocks t gs
      → OwnBlocks t (run_frames facts.time x b ++ gs)
  run_blocks (says (forms.Run m limit once)) true gs h = (tt, h)
  run_blocks x b gs h = h

  run_number : (x : BlockLine) (b : Bool) (gs : List Frame)
      → base_number (run_frames facts.time x b ++ gs) ≡ base_number gs
  run_number (says (forms.Run m limit once)) true gs = refl
  run_number x b gs = refl

  -- a line of the innermost frame
  line_number : (x : BlockLine) (k : Kind) (b n : ℕ) (bs : List Binding) (cs : List Callee) (fs : List Frame)
      → OwnBlocks t (frame k b n bs cs ∷ fs) → slice_get (frame_lines s k b) n ≡ Some x
      → FramesGo s t (does x) (frame k b n bs cs ∷ fs) (line_done facts t x answer list (frame k b n bs cs) ∷ fs)
  line_number x of_block b n bs cs fs own at = record {
    blocks = own;
    setup = λ e h. omega (arith, packed_next h (setup_lines s) n x (subst (λ (c : ℕ). slice_get (thread_lines s c) n ≡ Some x) (own.0 ∙ e) at));
    other = λ apart h. by h b (λ e. apart (sym own.0 ∙ e)) at;
  }
    where
      by : (h : Holder) (c : ℕ) → (c ≡ 0 → ⊥) → slice_get (thread_lines s c) n ≡ Some x → packed_by h (does x) ≡ 0
      by h zero apart at = absurd (apart refl)
      by h (suc c) apart at = no_pack_line h x (threads_pack_nothing s c n x at)
  line_number x (of_handler k) b n bs cs fs own at =
      quiet_go s t (does x) (frame (of_handler k) b n bs cs ∷ fs) (line_done facts t x answer list (frame (of_handler k) b n bs cs) ∷ fs) own (λ h. no_pack_line h x (handlers_pack_nothing s b n x at)) refl
  line_number x (of_run r) b n bs cs fs own at = absurd cc

  line_go : (x : BlockLine) (f : Frame) (fs : List Frame) → OwnBlocks t (f ∷ fs)
      → slice_get (frame_lines s f.kind f.block) f.number ≡ Some x
      → FramesGo s t (does x) (f ∷ fs) (frames_after facts t (does x) answer list (f ∷ fs))
  line_go x f fs own at =
      let go = line_number x f.kind f.block f.number f.bindings f.collected fs own at in
      let gs = line_done facts t x answer list f ∷ fs in
      let same : base_number (run_frames facts.time x (is_entered answer) ++ gs) ≡ base_number gs = run_number x (is_entered answer) gs in
      record {
        blocks = run_blocks x (is_entered answer) gs go.blocks;
        setup = λ e h. omega (arith, go.setup e h, ap (λ (n : ℕ). packed h (take n (setup_lines s))) same);
        other = go.other;
      }

  -- a call, and a phase of a run
  called_blocks : (role : Role) (k : Kind) (b : ℕ) → OwnBlock t k b → OwnBlock t (kind_called role k) b
  called_blocks role of_block b h = h
  called_blocks role (of_handler k) b h = tt
  called_blocks role (of_run r) b h = tt

  called_number : (role : Role) (k : Kind) (n below : ℕ) → number_on (kind_called role k) n below ≡ number_on k n below
  called_number role of_block n below = refl
  called_number role (of_handler k) n below = refl
  called_number role (of_run r) n below = refl

  call_go : (k : Callee) (c : Callout) (f : Frame) (fs : List Frame) → OwnBlocks t (f ∷ fs)
      → FramesGo s t (calls k c) (f ∷ fs) (frames_after facts t (calls k c) answer list (f ∷ fs))
  call_go k c f fs own =
      quiet_go s t (calls k c) (f ∷ fs) (frames_after facts t (calls k c) answer list (f ∷ fs)) (tt, (called_blocks k.role f.kind f.block own.0, own.1)) (λ h. refl)
      (called_number k.role f.kind f.number (base_number fs))

  phase_blocks : (p : Phase) (k : Kind) (b : ℕ) → OwnBlock t k b → OwnBlock t (kind_after facts t p k) b
  phase_blocks p of_block b h = h
  phase_blocks p (of_handler k) b h = tt
  phase_blocks p (of_run r) b h = tt

  phase_number : (p : Phase) (k : Kind) (n below : ℕ) → number_on (kind_after facts t p k) n below ≡ number_on k n below
  phase_number p of_block n below = refl
  phase_number p (of_handler k) n below = refl
  phase_number p (of_run r) n below = refl

  phase_go : (p : Phase) (f : Frame) (fs : List Frame) → OwnBlocks t (f ∷ fs)
      → FramesGo s t (enters p) (f ∷ fs) (frames_after facts t (enters p) answer list (f ∷ fs))
  phase_go p f fs own =
      quiet_go s t (enters p) (f ∷ fs) (frames_after facts t (enters p) answer list (f ∷ fs)) (phase_blocks p f.kind f.block own.0, own.1) (λ h. refl)
      (phase_number p f.kind f.number (base_number fs))

  -- a frame that is no block's goes away
  gone_number : (k : Kind) (n below : ℕ) → (k ≡ of_block → ⊥) → below ≡ number_on k n below
  gone_number of_block n below h = absurd (h refl)
  gone_number (of_handler k) n below h = refl
  gone_number (of_run r) n below h = refl

  handler_no_block : (k : Kind) (q : Callee) → k ≡ of_handler q → k ≡ of_block → ⊥
  handler_no_block k q e p = cc

  run_no_block : (k : Kind) (r : Turn) → k ≡ of_run r → k ≡ of_block → ⊥
  run_no_block k r e p = cc

  frame_go : (d : Demand) (f : Frame) (fs : List Frame) → OwnBlocks t (f ∷ fs) → FrameView s facts t f d
      → FramesGo s t d (f ∷ fs) (frames_after facts t d answer list (f ∷ fs))
  frame_go _ f fs own (is_call k called found) = call_go k called f fs own
  frame_go _ f fs own (is_line x at) = line_go x f fs own at
  frame_go _ f fs own (is_end e) = quiet_go s t ends (f ∷ fs) (f ∷ fs) own (λ h. refl) refl
  frame_go _ f fs own (is_return k e end) =
      quiet_go s t returns (f ∷ fs) fs own.1 (λ h. refl) (gone_number f.kind f.number (base_number fs) (handler_no_block f.kind k e))
  frame_go _ f fs own (is_phase r p e) = phase_go p f fs own
  frame_go _ f fs own (is_close r e) =
      quiet_go s t closes (f ∷ fs) fs own.1 (λ h. refl) (gone_number f.kind f.number (base_number fs) (run_no_block f.kind r e))

  work_go : (d : Demand) (fs : List Frame) (stand : Stand) → OwnBlocks t fs → WorkView facts stand.work d
      → FramesGo s t d fs (frames_after facts t d answer list fs)
  work_go _ fs stand own (first_owes o first) = quiet_go s t (owes o) fs fs own (λ h. refl) refl
  work_go _ fs stand own (first_spends i first) = quiet_go s t (spends i) fs fs own (λ h. refl) refl
  work_go _ fs stand own (first_drops b k o left first) = quiet_go s t (drops b k o) fs fs own (λ h. refl) refl

  stand_go : (d : Demand) (stand : Stand) → OwnBlocks t stand.frames → StandView s facts t stand d
      → FramesGo s t d stand.frames (frames_after facts t d answer list stand.frames)
  stand_go d stand own (of_work w view) = work_go d stand.frames stand own view
  stand_go d stand own (of_frame f fs no_work e view) =
      subst (λ (gs : List Frame). FramesGo s t d gs (frames_after facts t d answer list gs)) (sym e) (frame_go d f fs (subst (OwnBlocks t) e own) view)

-- ---- a run that is told to stop

stop_blocks_by : (t : ℕ) (k : Kind) (b n : ℕ) (bs : List Binding) (cs : List Callee) (fs : List Frame)
    → OwnBlocks t (frame k b n bs cs ∷ fs) → OwnBlocks t (stop_frames fs)
    → OwnBlocks t (stop_frames (frame k b n bs cs ∷ fs))
stop_blocks_by t of_block b n bs cs fs own rest = (own.0, rest)
stop_blocks_by t (of_handler k) b n bs cs fs own rest = (own.0, rest)
stop_blocks_by t (of_run r) b n bs cs fs own rest = (tt, own.1)

stop_blocks : (t : ℕ) (fs : List Frame) → OwnBlocks t fs → OwnBlocks t (stop_frames fs)
stop_blocks t [] own = tt
stop_blocks t (f ∷ fs) own = stop_blocks_by t f.kind f.block f.number f.bindings f.collected fs own (stop_blocks t fs own.1)

stop_number_by : (k : Kind) (b n : ℕ) (bs : List Binding) (cs : List Callee) (fs : List Frame)
    → base_number (stop_frames fs) ≡ base_number fs
    → base_number (stop_frames (frame k b n bs cs ∷ fs)) ≡ base_number (frame k b n bs cs ∷ fs)
stop_number_by of_block b n bs cs fs rest = refl
stop_number_by (of_handler k) b n bs cs fs rest = rest
stop_number_by (of_run r) b n bs cs fs rest = refl

stop_number : (fs : List Frame) → base_number (stop_frames fs) ≡ base_number fs
stop_number [] = refl
stop_number (f ∷ fs) = stop_number_by f.kind f.block f.number f.bindings f.collected fs (stop_number fs)

-- frames that are the same, or of which a run was told to stop
record AreAs (t : ℕ) (fs gs : List Frame) : Type 0 where
  blocks : OwnBlocks t gs
  number : base_number gs ≡ base_number fs

as_is : (t : ℕ) (fs gs : List Frame) → OwnBlocks t fs → gs ≡ fs → AreAs t fs gs
as_is t fs gs own e = record { blocks = subst (OwnBlocks t) (sym e) own; number = ap base_number e }

stopped_as : (stops : Option ℕ) (u : ℕ) (ss : List Stand) → OwnBlocks u (stand_at u ss).frames
    → AreAs u (stand_at u ss).frames (stand_at u (stopped_at stops ss)).frames
stopped_as None u ss own = as_is u (stand_at u ss).frames (stand_at u ss).frames own refl
stopped_as (Some w) u ss own = elim (eqb_tells u w) [
  | inl e ↦ subst (λ (n : ℕ). AreAs u (stand_at u ss).frames (stand_at u (stopped_at (Some n) ss)).frames) e.1
      (record {
        blocks = subst (λ (x : Stand). OwnBlocks u x.frames) (sym (at_own blank u (stop_stand (stand_at u ss)) ss)) (stop_blocks u (stand_at u ss).frames own);
        number = ap (λ (x : Stand). base_number x.frames) (at_own blank u (stop_stand (stand_at u ss)) ss) ∙ stop_number (stand_at u ss).frames;
      })
  | inr e ↦ as_is u (stand_at u ss).frames (stand_at u (stopped_at (Some w) ss)).frames own (ap (λ (x : Stand). x.frames) (at_other blank u w (stop_stand (stand_at w ss)) ss e.1))
]

-- ---- states

-- each frame of a block is of its thread's block, and a place of a parcel has no more references than setup has done
-- lines that pack for it
pub record ParcelsFit (s : Script) (st : State) : Type 0 where
  pub blocks : (t : ℕ) → OwnBlocks t (frames_at t st)
  pub few : (u k : ℕ) → weigh (from_holder (parcel u k)) st.edges ≤ packed_so_far s (parcel u k) (frames_at 0 st)

pub place_has_one : (s : Script) (st : State) (u k : ℕ) → ParcelsFit s st → HasOneAtMost (parcel u k) st.edges
place_has_one s st u k h =
    one_at_most (parcel u k) st.edges
    (omega (arith, h.few u k, packed_part (parcel u k) (base_number (frames_at 0 st)) (setup_lines s), setup_packs_once s u k))

module _ (s : Script) (st : State) (t : ℕ) (d : Demand) (h : ParcelsFit s st) (e : demanded s st t ≡ Some d) where
  abbrev the_step : Step
  the_step = step_of s t st (frames_at t st) d

  abbrev new : Stand
  new = stand_after t d the_step st

  abbrev moved_stands : List Stand
  moved_stands = with_stand t new st.stands

  go : FramesGo s t d (frames_at t st) new.frames
  go = stand_go s (facts_of st) t (step_answer the_step st) the_step.list d (stand_at t st.stands) (h.blocks t) (stand_view s (facts_of st) t (stand_at t st.stands) d e)

  own_frames : (stand_at t moved_stands).frames ≡ new.frames
  own_frames = ap (λ (x : Stand). x.frames) (at_own blank t new st.stands)

  other_frames : (u : ℕ) → (u ≡ t → ⊥) → (stand_at u moved_stands).frames ≡ frames_at u st
  other_frames u apart = ap (λ (x : Stand). x.frames) (at_other blank u t new st.stands apart)

  moved_blocks : (u : ℕ) → OwnBlocks u (stand_at u moved_stands).frames
  moved_blocks u = elim (eqb_tells u t) [
    | inl q ↦ subst (λ (w : ℕ). OwnBlocks w (stand_at w moved_stands).frames) (sym q.1) (subst (OwnBlocks t) (sym own_frames) go.blocks)
    | inr q ↦ subst (OwnBlocks u) (sym (other_frames u q.1)) (h.blocks u)
  ]

  stopped : (u : ℕ) → AreAs u (stand_at u moved_stands).frames (frames_at u (done_by s t st d))
  stopped u = stopped_as the_step.stops u moved_stands (moved_blocks u)

  so_far : (k : Holder)
      → packed_so_far s k (frames_at 0 st) + packed_by k d ≤ packed_so_far s k (stand_at 0 moved_stands).frames
  so_far k = elim (eqb_tells 0 t) [
    | inl q ↦ subst (λ (w : ℕ). packed_so_far s k (frames_at w st) + packed_by k d ≤ packed_so_far s k (stand_at w moved_stands).frames) (sym q.1)
        (subst (λ (gs : List Frame). packed_so_far s k (frames_at t st) + packed_by k d ≤ packed_so_far s k gs) (sym own_frames) (go.setup (sym q.1) k))
    | inr q ↦ omega (arith, go.other (λ a. q.1 (sym a)) k, ap (packed_so_far s k) (other_frames 0 q.1))
  ]

  pub done_fits : ParcelsFit s (done_by s t st d)
  done_fits = record {
    blocks = λ u. (stopped u).blocks;
    few = λ u k.
        omega (
          arith,
          flowed_le (from_holder (parcel u k)) the_step.flow st.edges,
          demand_wins s t st u k (frames_at t st) d,
          h.few u k,
          so_far (parcel u k),
          ap (λ (n : ℕ). packed (parcel u k) (take n (setup_lines s))) (stopped 0).number,
        );
  }

-- ---- entries

acted_fits : (s : Script) (st : State) (t : ℕ) (d : Option Demand) → ParcelsFit s st → demanded s st t ≡ d
    → ParcelsFit s (acted s t st d)
acted_fits s st t None h e = h
acted_fits s st t (Some d) h e = done_fits s st t d h e

entry_fits : (s : Script) (st : State) (t : ℕ) (a : Action) → ParcelsFit s st → ActionView a
    → ParcelsFit s (after_action s t st a)
entry_fits s st t _ h (is_tick n) = record { blocks = h.blocks; few = h.few }
entry_fits s st t _ h is_stall = h
entry_fits s st t a h (is_step _ step) = subst (ParcelsFit s) (sym (step.after s t st)) (acted_fits s st t (demanded s st t) h refl)

pub parcels_after_action : (s : Script) (st : State) (t : ℕ) (a : Action) → ParcelsFit s st
    → ParcelsFit s (after_action s t st a)
parcels_after_action s st t a h = entry_fits s st t a h (action_view a)

parcels_from : (s : Script) (st : State) (es : List Entry) → ParcelsFit s st → ParcelsFit s (state_from s st es)
parcels_from s st [] h = h
parcels_from s st (e ∷ es) h = parcels_from s (after_action s e.thread st e.action) es (parcels_after_action s st e.thread e.action h)

opening_blocks : (n k t : ℕ) → OwnBlocks (k + t) (stand_at t (map opening_stand (range_with_len k n))).frames
opening_blocks zero k zero = tt
opening_blocks zero k (suc t) = tt
opening_blocks (suc n) k zero = (omega arith, tt)
opening_blocks (suc n) k (suc t) = subst (λ (u : ℕ). OwnBlocks u (stand_at t (map opening_stand (range_with_len (k + 1) n))).frames) (omega arith) (opening_blocks n (k + 1) t)

pub start_parcels : (s : Script) → ParcelsFit s (start s)
start_parcels s = record {
  blocks = λ t. subst (λ (u : ℕ). OwnBlocks u (frames_at t (start s))) (omega arith) (opening_blocks s.thread_count 0 t);
  few = λ u k. omega arith;
}

pub parcels_after : (s : Script) (es : List Entry) → ParcelsFit s (After s es)
parcels_after s es = parcels_from s (start s) es (start_parcels s)

pub parcels_one : (s : Script) (es : List Entry) (u k : ℕ) → HasOneAtMost (parcel u k) (After s es).edges
parcels_one s es u k = place_has_one s (After s es) u k (parcels_after s es)
