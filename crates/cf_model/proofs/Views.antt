-- What a demand tells of the stand that makes it.
use Rattle.std.proofs.Common.{◌≡◌, ℕ, ◌+◌, Bool, true, false, cond, List, [], ◌∷◌, Option, Some, None, eqb, refl, ap, ◌∙◌, subst}
use Rattle.std.specs.Prelude.{slice_get}
use Rattle.cf_graph.specs.Edges.{counted}
use Rattle.cf_model.specs.Tokens.{owed_in}
use Rattle.cf_next.specs.Demands.{phase_demand, Demand, call_demand, call_if, callout_of, calls, closes, demand, does, drops, ends, enters, frame_demand, frame_lines, kind_demand, line_or, or_else, owes, returns, slot_if, spends, work_demand, work_left}
use Rattle.cf_next.specs.Facts.{Callout, Facts}
use Rattle.cf_next.specs.Stands.{Callee, Frame, Kind, Stand, Turn, Work, of_block, of_handler, of_run, release_of, slots_of, spend_of}
use Rattle.cf_next.specs.Turns.{phase_due}
use Rattle.cf_syntax.specs.BlockLines.{BlockLine, handler_lines, thread_lines}
use Rattle.cf_syntax.specs.declared.script.Script.{Script}
use Rattle.rl_turn.specs.declared.phases.Phase.{Phase}
use Rattle.rl_turn.specs.declared.phases.Phase.TheVariants.{Ran}

-- the first item of work, and the work after it
pub data WorkView (facts : Facts) (work : List Work) : Demand → Type 0 where
  first_owes : (o : ℕ) → ((p : ℕ) → owed_in p work ≡ counted (eqb o p) + owed_in p (work_left facts work))
      → WorkView facts work (owes o)
  first_spends : (i : ℕ) → ((p : ℕ) → owed_in p work ≡ owed_in p (work_left facts work))
      → WorkView facts work (spends i)
  first_drops : (b k o : ℕ) → facts.slot b k ≡ Some o → ((p : ℕ) → owed_in p work ≡ owed_in p (work_left facts work))
      → WorkView facts work (drops b k o)

demand_is : (a b : Demand) → ◌≡◌ {A = Option Demand} (Some a) (Some b) → a ≡ b
demand_is a b e = cc

none_is_none : (a : Demand) → ◌≡◌ {A = Option Demand} None (Some a) → ⊥
none_is_none a e = cc

-- an item that is passed over changes nothing
passed_view : (facts : Facts) (b k : ℕ) (work : List Work) (d : Demand) → facts.slot b k ≡ None → WorkView facts work d
    → WorkView facts (slots_of b k ∷ work) d
passed_view facts b k work _ e (first_owes o h) = first_owes o (λ p. rw e (h p))
passed_view facts b k work _ e (first_spends i h) = first_spends i (λ p. rw e (h p))
passed_view facts b k work _ e (first_drops a m o s h) = first_drops a m o s (λ p. rw e (h p))

slots_view : (facts : Facts) (b k : ℕ) (work : List Work) (d : Demand) (left : Option ℕ) → facts.slot b k ≡ left
    → slot_if b k left (work_demand facts work) ≡ Some d → (work_demand facts work ≡ Some d → WorkView facts work d)
    → WorkView facts (slots_of b k ∷ work) d
slots_view facts b k work d None l e rest = passed_view facts b k work d l (rest e)
slots_view facts b k work d (Some o) l e rest =
    subst (WorkView facts (slots_of b k ∷ work)) (demand_is (drops b k o) d e) (first_drops b k o l (λ p. rw l refl))

pub work_view : (facts : Facts) (work : List Work) (d : Demand) → work_demand facts work ≡ Some d
    → WorkView facts work d
work_view facts [] d e = absurd (none_is_none d e)
work_view facts (release_of o ∷ work) d e = subst (WorkView facts (release_of o ∷ work)) (demand_is (owes o) d e) (first_owes o (λ p. refl))
work_view facts (spend_of i ∷ work) d e = subst (WorkView facts (spend_of i ∷ work)) (demand_is (spends i) d e) (first_spends i (λ p. refl))
work_view facts (slots_of b k ∷ work) d e = slots_view facts b k work d (facts.slot b k) refl e (work_view facts work d)

idle_if : (facts : Facts) (b k : ℕ) (work : List Work) (left : Option ℕ)
    → slot_if b k left (work_demand facts work) ≡ None → work_demand facts work ≡ None
idle_if facts b k work None e = e
idle_if facts b k work (Some o) e = absurd cc

-- where no item has something left nothing is owed
pub idle_owed : (facts : Facts) (work : List Work) (p : ℕ) → work_demand facts work ≡ None → owed_in p work ≡ 0
idle_owed facts [] p e = refl
idle_owed facts (release_of o ∷ work) p e = absurd cc
idle_owed facts (spend_of i ∷ work) p e = absurd cc
idle_owed facts (slots_of b k ∷ work) p e = idle_owed facts work p (idle_if facts b k work (facts.slot b k) e)

-- what a frame demands
pub data FrameView (c : Script) (facts : Facts) (t : ℕ) (f : Frame) : Demand → Type 0 where
  is_call : (k : Callee) (called : Callout) → callout_of facts t f.kind k.role k.number ≡ Some called
      → FrameView c facts t f (calls k called)
  is_line : (x : BlockLine) → slice_get (frame_lines c f.kind f.block) f.number ≡ Some x
      → FrameView c facts t f (does x)
  is_end : f.kind ≡ of_block → FrameView c facts t f ends
  is_return : (k : Callee) → f.kind ≡ of_handler k → slice_get (handler_lines c f.block) f.number ≡ None
      → FrameView c facts t f returns
  is_phase : (r : Turn) (p : Phase) → f.kind ≡ of_run r → FrameView c facts t f (enters p)
  is_close : (r : Turn) → f.kind ≡ of_run r → FrameView c facts t f closes

-- the demand of a call, or none
called_view : (c : Script) (facts : Facts) (t : ℕ) (f : Frame) (ks : List Callee) (d : Demand)
    → call_demand facts t f.kind ks ≡ Some d → FrameView c facts t f d
called_view c facts t f [] d e = absurd (none_is_none d e)
called_view c facts t f (k ∷ ks) d e = by (callout_of facts t f.kind k.role k.number) refl e (called_view c facts t f ks d)
  where
    by : (found : Option Callout) → callout_of facts t f.kind k.role k.number ≡ found
        → call_if k found (call_demand facts t f.kind ks) ≡ Some d
        → (call_demand facts t f.kind ks ≡ Some d → FrameView c facts t f d) → FrameView c facts t f d
    by None e q rest = rest q
    by (Some p) e q rest = subst (FrameView c facts t f) (demand_is (calls k p) d q) (is_call k p e)

block_view : (c : Script) (facts : Facts) (t : ℕ) (f : Frame) (d : Demand) (line : Option BlockLine) → f.kind ≡ of_block
    → slice_get (frame_lines c f.kind f.block) f.number ≡ line → line_or line ends ≡ d → FrameView c facts t f d
block_view c facts t f d None k l e = subst (FrameView c facts t f) e (is_end k)
block_view c facts t f d (Some x) k l e = subst (FrameView c facts t f) e (is_line x l)

handler_view : (c : Script) (facts : Facts) (t : ℕ) (f : Frame) (d : Demand) (q : Callee) (line : Option BlockLine)
    → f.kind ≡ of_handler q → slice_get (handler_lines c f.block) f.number ≡ line → line_or line returns ≡ d
    → FrameView c facts t f d
handler_view c facts t f d q None k l e = subst (FrameView c facts t f) e (is_return q k l)
handler_view c facts t f d q (Some x) k l e =
    subst (FrameView c facts t f) e (is_line x (ap (λ (y : Kind). slice_get (frame_lines c y f.block) f.number) k ∙ l))

run_view : (c : Script) (facts : Facts) (t : ℕ) (f : Frame) (d : Demand) (r : Turn) (p : Option Phase)
    → f.kind ≡ of_run r → phase_demand p ≡ d → FrameView c facts t f d
run_view c facts t f d r None k e = subst (FrameView c facts t f) e (is_close r k)
run_view c facts t f d r (Some Ran) k e = subst (FrameView c facts t f) e (is_close r k)
run_view c facts t f d r (Some p) k e = subst (FrameView c facts t f) e (is_phase r p k)

kind_view : (c : Script) (facts : Facts) (t : ℕ) (f : Frame) (d : Demand) (k : Kind) → f.kind ≡ k
    → kind_demand c facts t k f.block f.number ≡ d → FrameView c facts t f d
kind_view c facts t f d of_block k e =
    block_view c facts t f d (slice_get (thread_lines c f.block) f.number) k (ap (λ (y : Kind). slice_get (frame_lines c y f.block) f.number) k) e
kind_view c facts t f d (of_handler q) k e = handler_view c facts t f d q (slice_get (handler_lines c f.block) f.number) k refl e
kind_view c facts t f d (of_run r) k e = run_view c facts t f d r (phase_due facts t r r.last) k e

pub data StandView (c : Script) (facts : Facts) (t : ℕ) (s : Stand) (d : Demand) : Type 0 where
  of_work : work_demand facts s.work ≡ Some d → WorkView facts s.work d → StandView c facts t s d
  of_frame : (f : Frame) (fs : List Frame) → work_demand facts s.work ≡ None → s.frames ≡ f ∷ fs
      → FrameView c facts t f d → StandView c facts t s d

frames_view : (c : Script) (facts : Facts) (t : ℕ) (s : Stand) (d : Demand) (fs : List Frame)
    → work_demand facts s.work ≡ None → s.frames ≡ fs → frame_demand c facts t fs ≡ Some d → StandView c facts t s d
frames_view c facts t s d [] w e h = absurd (none_is_none d h)
frames_view c facts t s d (f ∷ fs) w e h = by (call_demand facts t f.kind f.collected) refl h
  where
    by : (found : Option Demand) → call_demand facts t f.kind f.collected ≡ found
        → or_else found (Some (kind_demand c facts t f.kind f.block f.number)) ≡ Some d → StandView c facts t s d
    by None q h = of_frame f fs w e (kind_view c facts t f d f.kind refl (demand_is (kind_demand c facts t f.kind f.block f.number) d h))
    by (Some a) q h = of_frame f fs w e (called_view c facts t f f.collected d (q ∙ h))

work_or_frames : (c : Script) (facts : Facts) (t : ℕ) (s : Stand) (d : Demand) (first : Option Demand)
    → work_demand facts s.work ≡ first → or_else first (frame_demand c facts t s.frames) ≡ Some d
    → StandView c facts t s d
work_or_frames c facts t s d None w e = frames_view c facts t s d s.frames w refl e
work_or_frames c facts t s d (Some a) w e = of_work (w ∙ e) (work_view facts s.work d (w ∙ e))

going_view : (c : Script) (facts : Facts) (t : ℕ) (s : Stand) (d : Demand) (done : Bool)
    → cond done None (or_else (work_demand facts s.work) (frame_demand c facts t s.frames)) ≡ Some d
    → StandView c facts t s d
going_view c facts t s d true e = absurd (none_is_none d e)
going_view c facts t s d false e = work_or_frames c facts t s d (work_demand facts s.work) refl e

pub stand_view : (c : Script) (facts : Facts) (t : ℕ) (s : Stand) (d : Demand) → demand c facts t s ≡ Some d
    → StandView c facts t s d
stand_view c facts t s d e = going_view c facts t s d s.is_done e
