-- How contracts see the frames of a thread, with the room that there is. This project's own.
use Rattle.std.specs.Prelude.{◌≡◌, ℕ, ◌+◌, ◌-◌, ◌≤◌, ◌<◌, Bool, true, false, List, [], ◌∷◌, ◌++◌, length, drop, reverse, slice_index_or, Option, Some, None, if◌then◌else◌}
use Rattle.cf_ids.specs.declared.limits.TheConstants.{VARIABLES}
use Rattle.cf_next.specs.declared.object.MaybeObject.{MaybeObject}
use Rattle.cf_next.specs.declared.parts.Bound.{Bound}
use Rattle.cf_next.specs.declared.parts.Callee.{Callee as CodeCallee}
use Rattle.cf_next.specs.declared.parts.Frame.{Frame as CodeFrame}
use Rattle.cf_next.specs.declared.parts.Kind.{Kind as CodeKind}
use Rattle.cf_next.specs.declared.parts.Kind.TheVariants.{Block, Handler, Run}
use Rattle.cf_next.specs.declared.parts.Run.{Run as CodeRun}
use Rattle.rl_turn.specs.declared.phases.Phase.{Phase}
use Rattle.cf_next.specs.Facts.{Facts}
use Rattle.cf_next.specs.Stands.{look, Callee, Role, Kind, of_block, of_handler, of_run, Frame}
use Rattle.cf_next.specs.Turns.{kind_after}
use Rattle.cf_next.specs.Advance.{kind_called}
use Rattle.cf_next.specs.Grids.{top_row}
use Rattle.cf_next.specs.Views.{frame_of, kind_of, block_in, bindings_of, cell_of}

-- the frames, and for how many more frames, bindings and collected ones there is room
pub record Stack : Type 0 where
  pub frames : List Frame
  pub frame_room : ℕ
  pub binding_room : ℕ
  pub callee_room : ℕ

-- room that is there stays
pub record RoomKept (s s' : Stack) : Type 0 where
  pub frames : s.frame_room ≤ s'.frame_room
  pub bindings : s.binding_room ≤ s'.binding_room
  pub callees : s.callee_room ≤ s'.callee_room

-- frames, each with the bindings and the collected ones at its place
abbrev pub frames_from : List CodeFrame → List (List Bound) → List (List CodeCallee) → List Frame
frames_from [] bindings collected = []
frames_from (f ∷ fs) bindings collected =
    frame_of f (top_row bindings) (top_row collected) ∷ frames_from fs (drop 1 bindings) (drop 1 collected)

-- the outermost frame is that of a block, and so there is one
abbrev pub is_block : Kind → Bool
is_block of_block = true
is_block (of_handler k) = false
is_block (of_run r) = false

abbrev pub IsBased : List CodeFrame → Type 0
IsBased [] = ⊥
IsBased (f ∷ []) = is_block (kind_of f.kind) ≡ true
IsBased (f ∷ g ∷ fs) = IsBased (g ∷ fs)

-- each frame has its bindings and its collected ones, and the table has what is bound in the innermost one
pub record IsStack (frames : List CodeFrame) (bindings : List (List Bound)) (collected : List (List CodeCallee)) (table : List MaybeObject) : Type 0 where
  pub based : IsBased frames
  pub bindings_each : length bindings ≡ length frames
  pub collected_each : length collected ≡ length frames
  pub table_size : length table ≡ VARIABLES
  pub table_is : (v : ℕ) → cell_of table v ≡ look v (bindings_of (top_row bindings))

-- there is a frame
abbrev pub HasFrame : List Frame → Type 0
HasFrame [] = ⊥
HasFrame (f ∷ fs) = Unit {0}

-- ---- what is done to the innermost frame

abbrev pub with_binding : (variable : ℕ) → Option ℕ → Frame → Frame
with_binding v o f = record f { bindings = record { variable = v; object = o } ∷ f.bindings }

-- a line more is done, and nothing is left of what was collected
abbrev pub line_passed : Frame → Frame
line_passed f = record f { number = f.number + 1; collected = [] }

abbrev pub with_collected : List Callee → Frame → Frame
with_collected ks f = record f { collected = ks ++ f.collected }

-- the last of a list, so many
abbrev pub last_of : {A : Type 0} → ℕ → List A → List A
last_of n xs = drop (length xs - n) xs

abbrev pub with_called : Role → (left : ℕ) → Frame → Frame
with_called role left f = record f { kind = kind_called role f.kind; collected = last_of left f.collected }

abbrev pub with_phase : Facts → ℕ → Phase → Frame → Frame
with_phase facts t p f = record f { kind = kind_after facts t p f.kind; collected = [] }

-- a frame that is opened
abbrev pub opened : CodeKind → (number : ℕ) → Frame
opened kind n = record { kind = kind_of kind; block = block_in kind; number = n; bindings = []; collected = [] }

-- ---- the innermost run, in the code's list, the innermost frame first

abbrev pub code_run_or : CodeKind → Option CodeRun → Option CodeRun
code_run_or (Block t) other = other
code_run_or (Handler k h) other = other
code_run_or (Run r) other = Some r

abbrev pub code_run : List CodeFrame → Option CodeRun
code_run [] = None
code_run (f ∷ fs) = code_run_or f.kind (code_run fs)

-- the innermost run is told to stop
abbrev pub code_is_run : CodeKind → Bool
code_is_run (Block t) = false
code_is_run (Handler k h) = false
code_is_run (Run r) = true

abbrev pub code_stopped : CodeKind → CodeKind
code_stopped (Block t) = Block t
code_stopped (Handler k h) = Handler k h
code_stopped (Run r) = Run (record r { stopped = true })

abbrev pub code_has_run : List CodeFrame → Bool
code_has_run [] = false
code_has_run (f ∷ fs) = if code_is_run f.kind then true else code_has_run fs

abbrev pub code_stop : List CodeFrame → List CodeFrame
code_stop [] = []
code_stop (f ∷ fs) = if code_is_run f.kind then record f { kind = code_stopped f.kind } ∷ fs else f ∷ code_stop fs

-- the innermost run stands at a place, in the code's list, the outermost frame first
pub record IsRunAt (frames : List CodeFrame) (i : ℕ) : Type 0 where
  pub within : i < length frames
  pub here : (d : CodeFrame) → code_is_run (slice_index_or frames i d).kind ≡ true
  pub others : code_has_run (reverse (drop (i + 1) frames)) ≡ false
