-- Where a thread stands: its frames, the innermost first, and the work that comes before them. After the Run Loops
-- guide, where a run of a loop can be made within a callout of another; that it is kept as frames is this project's
-- own.
use Rattle.std.specs.Prelude.{ℕ, Bool, true, false, List, [], ◌∷◌, Option, Some, None, ◌==◌, if◌then◌else◌}
use Rattle.rl_turn.specs.declared.phases.Phase.{Phase}

-- the object of a variable that was bound, or none if the variable is empty
pub record Binding : Type 0 where
  pub variable : ℕ
  pub object : Option ℕ

-- the object of a variable, or none if it is empty or not bound
abbrev pub look : ℕ → List Binding → Option ℕ
look v [] = None
look v (b ∷ bs) = if b.variable == v then b.object else look v bs

-- the part in which something is called: as an observer, a source or a timer of a run loop, or as a registration of an
-- observer of notices
pub data Role : Type 0 where
  as_observer : Role
  as_source : Role
  as_timer : Role
  as_receiver : Role

-- what an entry collects to be called, in its part: an item by its number as an object, or a registration by its own
-- number
pub record Callee : Type 0 where
  pub role : Role
  pub number : ℕ

-- the same from its parts
abbrev pub callee : Role → ℕ → Callee
callee role n = record { role = role; number = n }

-- the item of what is called in a part; a notice's registration is none
abbrev pub item_in : Role → ℕ → Option ℕ
item_in as_receiver n = None
item_in _ n = Some n

-- the item of a callout, if it has one
abbrev pub item_of : Callee → Option ℕ
item_of k = item_in k.role k.number

-- a run of a loop: its mode, whether it ends when a source was called, and its deadline, if it has one; the phase of
-- its last entry, if it has made one; whether a source was called since the turn began, and whether the run was told
-- to stop; and the result of its last test, if that had one
pub record Turn : Type 0 where
  pub mode : ℕ
  pub once : Bool
  pub deadline : Option ℕ
  pub last : Option Phase
  pub handled : Bool
  pub stopped : Bool
  pub result : Option ℕ

-- a frame is of a thread's block, of a handler, with what was called, or of a run
pub data Kind : Type 0 where
  of_block : Kind
  of_handler : Callee → Kind
  of_run : Turn → Kind

-- a frame: its block (that of a handler by the handler's number), how many lines of it are done, what its variables
-- are bound to, the newest first, and what its last entry collected and is not called yet
pub record Frame : Type 0 where
  pub kind : Kind
  pub block : ℕ
  pub number : ℕ
  pub bindings : List Binding
  pub collected : List Callee

-- work of a thread: the release of an object that it was given out, an item that is to be invalidated, and the slots
-- of a finalised body from a place on
pub data Work : Type 0 where
  release_of : ℕ → Work
  spend_of : ℕ → Work
  slots_of : (body place : ℕ) → Work

-- where a thread stands: its frames, the innermost first, its work, and whether it is done
pub record Stand : Type 0 where
  pub frames : List Frame
  pub work : List Work
  pub is_done : Bool

-- a thread at the first line of its block
abbrev pub opening_stand : ℕ → Stand
opening_stand t = record {
  frames = record { kind = of_block; block = t; number = 0; bindings = []; collected = [] } ∷ [];
  work = [];
  is_done = false;
}

-- ---- a stop

-- the frame is of a run
abbrev pub is_run : Kind → Bool
is_run (of_run r) = true
is_run _ = false

-- one of the frames is of a run
abbrev pub has_run : List Frame → Bool
has_run [] = false
has_run (f ∷ fs) = if is_run f.kind then true else has_run fs

-- a run is told to stop
abbrev pub stop_kind : Kind → Kind
stop_kind (of_run r) = of_run (record r { stopped = true })
stop_kind k = k

-- the innermost run of the frames is told to stop
abbrev pub stop_frames : List Frame → List Frame
stop_frames [] = []
stop_frames (f ∷ fs) = if is_run f.kind then record f { kind = stop_kind f.kind } ∷ fs else f ∷ stop_frames fs

-- the innermost run of a thread is told to stop
abbrev pub stop_stand : Stand → Stand
stop_stand s = record s { frames = stop_frames s.frames }
