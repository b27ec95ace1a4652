-- What a thread has references to, by its frames and its work: each object as often as it has. This project's own.
use Rattle.std.specs.Prelude.{◌≡◌, ℕ, zero, suc, ◌-◌, ◌<◌, ◌≤◌, List, [], ◌∷◌, ◌++◌, length, take, replicate, slice_index, Option, Some, None}
use Rattle.cf_ids.specs.declared.limits.TheConstants.{VARIABLES}
use Rattle.cf_syntax.specs.declared.script.Script.{Script}
use Rattle.cf_syntax.specs.declared.counts.Counts.{Counts}
use Rattle.cf_syntax.specs.BlockLines.{BlockLine}
use Rattle.cf_syntax.specs.Owned.{given, released}
use Rattle.cf_next.specs.declared.object.MaybeObject.{MaybeObject}
use Rattle.cf_next.specs.declared.parts.Frame.{Frame as CodeFrame}
use Rattle.cf_next.specs.Stands.{look, Frame, Work, release_of, spend_of, slots_of, Stand}
use Rattle.cf_next.specs.Advance.{kind_item}
use Rattle.cf_next.specs.Demands.{frame_lines}
use Rattle.cf_next.specs.Grids.{at_depth}
use Rattle.cf_next.specs.Next.{top_frame}
use Rattle.cf_next.specs.Views.{block_in, cell_of, kind_of}

-- the lists of the numbers below one, one after another
unfoldable pub below : {A : Type 0} → (ℕ → List A) → ℕ → List A
below f zero = []
below f (suc n) = below f n ++ f n

-- an object so often, if there is one
abbrev pub copies : Option ℕ → ℕ → List ℕ
copies None n = []
copies (Some o) n = replicate n o

-- the lines of a frame that are done
abbrev pub passed_lines : Script → Frame → List BlockLine
passed_lines s f = take f.number (frame_lines s f.kind f.block)

-- the object of a variable, as often as lines gave it less what they took
abbrev pub variable_objects : List BlockLine → Frame → ℕ → List ℕ
variable_objects done f v = copies (look v f.bindings) (given v done - released v done)

-- the same by a table and by counts
abbrev pub counted_objects : List MaybeObject → Counts → ℕ → List ℕ
counted_objects table c v = copies (cell_of table v) (slice_index c.given v - slice_index c.released v)

-- the objects whose release work owes
abbrev pub owed_objects : List Work → List ℕ
owed_objects [] = []
owed_objects (release_of o ∷ work) = o ∷ owed_objects work
owed_objects (spend_of i ∷ work) = owed_objects work
owed_objects (slots_of b k ∷ work) = owed_objects work

-- ---- frames

-- the frame at a depth, that is with so many below it; if there is none, one that has no line
abbrev pub frame_at : List Frame → (depth : ℕ) → Frame
frame_at fs d = at_depth (top_frame []) fs d

-- the objects of the variables of a frame, and the item of its callout, if it has one
abbrev pub frame_objects : Script → Frame → List ℕ
frame_objects s f = below (variable_objects (passed_lines s f) f) VARIABLES ++ copies (kind_item f.kind) 1

-- those of the frame at a depth
abbrev pub depth_objects : Script → List Frame → (depth : ℕ) → List ℕ
depth_objects s fs d = frame_objects s (frame_at fs d)

-- those of all frames, of the outermost one first
abbrev pub frames_objects : Script → List Frame → List ℕ
frames_objects s fs = below (depth_objects s fs) (length fs)

-- what a thread has references to by where it stands
abbrev pub held_objects : Script → Stand → List ℕ
held_objects s stand = frames_objects s stand.frames ++ owed_objects stand.work

-- the variables of the outermost frames, so many, have numbers below 256
abbrev pub HaveVariables : List Frame → (n : ℕ) → Type 0
HaveVariables fs n = (d v : ℕ) → d < n → VARIABLES ≤ v → look v (frame_at fs d).bindings ≡ None

-- those of all frames have
abbrev pub HasVariables : List Frame → Type 0
HasVariables fs = HaveVariables fs (length fs)

-- a frame without its variables and what it collected is the one at a depth
pub record IsFrameAt (fs : List Frame) (d : ℕ) (x : CodeFrame) : Type 0 where
  pub kind : kind_of x.kind ≡ (frame_at fs d).kind
  pub block : block_in x.kind ≡ (frame_at fs d).block
  pub number : x.number ≡ (frame_at fs d).number
