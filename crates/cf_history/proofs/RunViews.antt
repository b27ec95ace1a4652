-- What a demand tells of the frame that makes it: which phase is due, and that what is called was collected.
use Rattle.std.proofs.Common.{◌≡◌, ◌⊎◌, ℕ, Bool, true, false, cond, List, [], ◌∷◌, Option, Some, None, refl, ap, ◌∙◌, subst, inl, inr}
use Rattle.std.specs.Prelude.{slice_get}
use Rattle.rl_turn.specs.declared.phases.Phase.{Phase}
use Rattle.rl_turn.specs.declared.phases.Phase.TheVariants as phases
use Rattle.cf_syntax.specs.declared.script.Script.{Script}
use Rattle.cf_syntax.specs.BlockLines.{BlockLine, thread_lines, handler_lines}
use Rattle.cf_next.specs.Facts.{Callout, Facts}
use Rattle.cf_next.specs.Stands.{Callee, Turn, Kind, of_block, of_handler, of_run, Frame, Stand}
use Rattle.cf_next.specs.Turns.{phase_due}
use Rattle.cf_next.specs.Demands.{Demand, does, ends, returns, calls, enters, closes, callout_of, call_if, call_demand, line_or, phase_demand, kind_demand, frame_demand, frame_lines, or_else, work_demand, demand}
use Rattle.cf_model.proofs.Views.{WorkView, work_view}

-- each of some callees
abbrev pub AllOf : (Callee → Type 0) → List Callee → Type 0
AllOf P [] = Unit {0}
AllOf P (k ∷ ks) = P k × AllOf P ks

-- what a frame asks for, of whose collected ones each has some property
pub data Asks (P : Callee → Type 0) (s : Script) (facts : Facts) (t : ℕ) (f : Frame) : Demand → Type 0 where
  asks_call : (k : Callee) (c : Callout) → callout_of facts t f.kind k.role k.number ≡ Some c → P k
      → Asks P s facts t f (calls k c)
  asks_line : (x : BlockLine) → slice_get (frame_lines s f.kind f.block) f.number ≡ Some x → Asks P s facts t f (does x)
  asks_end : f.kind ≡ of_block → Asks P s facts t f ends
  asks_return : (k : Callee) → f.kind ≡ of_handler k → Asks P s facts t f returns
  asks_phase : (r : Turn) (p : Phase) → f.kind ≡ of_run r → phase_due facts t r r.last ≡ Some p → (p ≡ phases.Ran → ⊥)
      → Asks P s facts t f (enters p)
  asks_close : (r : Turn) → f.kind ≡ of_run r
      → (phase_due facts t r r.last ≡ None) ⊎ (phase_due facts t r r.last ≡ Some phases.Ran) → Asks P s facts t f closes

-- what a thread asks for: of its work, or of its innermost frame
pub data StandAsks (P : Callee → Type 0) (s : Script) (facts : Facts) (t : ℕ) (stand : Stand) : Demand → Type 0 where
  asks_work : (d : Demand) → WorkView facts stand.work d → StandAsks P s facts t stand d
  asks_frame : (d : Demand) (f : Frame) (fs : List Frame) → stand.frames ≡ f ∷ fs → Asks P s facts t f d
      → StandAsks P s facts t stand d

demand_is : (a b : Demand) → ◌≡◌ {A = Option Demand} (Some a) (Some b) → a ≡ b
demand_is a b e = cc

module _ (P : Callee → Type 0) (s : Script) (facts : Facts) (t : ℕ) where
  module _ (f : Frame) where
    abbrev Asked : Demand → Type 0
    Asked d = Asks P s facts t f d

    called : (ks : List Callee) (d : Demand) → AllOf P ks → call_demand facts t f.kind ks ≡ Some d → Asked d
    called [] d h e = absurd cc
    called (k ∷ ks) d h e = by (callout_of facts t f.kind k.role k.number) refl e (called ks d h.1)
      where
        by : (found : Option Callout) → callout_of facts t f.kind k.role k.number ≡ found
            → call_if k found (call_demand facts t f.kind ks) ≡ Some d
            → (call_demand facts t f.kind ks ≡ Some d → Asked d) → Asked d
        by None q e rest = rest e
        by (Some c) q e rest = subst Asked (demand_is (calls k c) d e) (asks_call k c q h.0)

    in_block : (line : Option BlockLine) → f.kind ≡ of_block → slice_get (frame_lines s f.kind f.block) f.number ≡ line
        → Asked (line_or line ends)
    in_block None k e = asks_end k
    in_block (Some x) k e = asks_line x e

    in_handler : (q : Callee) (line : Option BlockLine) → f.kind ≡ of_handler q
        → slice_get (frame_lines s f.kind f.block) f.number ≡ line → Asked (line_or line returns)
    in_handler q None k e = asks_return q k
    in_handler q (Some x) k e = asks_line x e

    in_run : (r : Turn) (p : Option Phase) → f.kind ≡ of_run r → phase_due facts t r r.last ≡ p → Asked (phase_demand p)
    in_run r None k e = asks_close r k (inl e)
    in_run r (Some phases.Ran) k e = asks_close r k (inr e)
    in_run r (Some (phases.Note a)) k e = asks_phase r (phases.Note a) k e (λ q. absurd cc)
    in_run r (Some phases.Sources) k e = asks_phase r phases.Sources k e (λ q. absurd cc)
    in_run r (Some phases.Timers) k e = asks_phase r phases.Timers k e (λ q. absurd cc)
    in_run r (Some phases.Sleep) k e = asks_phase r phases.Sleep k e (λ q. absurd cc)
    in_run r (Some phases.Test) k e = asks_phase r phases.Test k e (λ q. absurd cc)

    of_kind : (k : Kind) → f.kind ≡ k → Asked (kind_demand s facts t k f.block f.number)
    of_kind of_block e = in_block (slice_get (thread_lines s f.block) f.number) e (ap (λ (y : Kind). slice_get (frame_lines s y f.block) f.number) e)
    of_kind (of_handler q) e = in_handler q (slice_get (handler_lines s f.block) f.number) e (ap (λ (y : Kind). slice_get (frame_lines s y f.block) f.number) e)
    of_kind (of_run r) e = in_run r (phase_due facts t r r.last) e refl

    asked : (d : Demand) → AllOf P f.collected
        → or_else (call_demand facts t f.kind f.collected) (Some (kind_demand s facts t f.kind f.block f.number)) ≡ Some d
        → Asked d
    asked d h e = by (call_demand facts t f.kind f.collected) refl e
      where
        by : (found : Option Demand) → call_demand facts t f.kind f.collected ≡ found
            → or_else found (Some (kind_demand s facts t f.kind f.block f.number)) ≡ Some d → Asked d
        by None q e = subst Asked (demand_is (kind_demand s facts t f.kind f.block f.number) d e) (of_kind f.kind refl)
        by (Some a) q e = called f.collected d h (q ∙ e)

  module _ (stand : Stand) (d : Demand) (each : (f : Frame) (fs : List Frame) → stand.frames ≡ f ∷ fs → AllOf P f.collected) where
    of_frames : (fs : List Frame) → stand.frames ≡ fs → frame_demand s facts t fs ≡ Some d
        → StandAsks P s facts t stand d
    of_frames [] same e = absurd cc
    of_frames (f ∷ fs) same e = asks_frame d f fs same (asked f d (each f fs same) e)

    of_work : (w : Option Demand) → work_demand facts stand.work ≡ w
        → or_else w (frame_demand s facts t stand.frames) ≡ Some d → StandAsks P s facts t stand d
    of_work None q e = of_frames stand.frames refl e
    of_work (Some a) q e = asks_work d (work_view facts stand.work d (q ∙ e))

    going : (done : Bool)
        → cond done None (or_else (work_demand facts stand.work) (frame_demand s facts t stand.frames)) ≡ Some d
        → StandAsks P s facts t stand d
    going true e = absurd cc
    going false e = of_work (work_demand facts stand.work) refl e

    pub stand_asks : demand s facts t stand ≡ Some d → StandAsks P s facts t stand d
    stand_asks e = going stand.is_done e
