-- How contracts see where a thread stands, with the room that there is. This project's own.
use Rattle.std.specs.Prelude.{ℕ, ◌+◌, ◌≤◌, Bool, true, false, ◌&&◌, ◌==◌, List, [], ◌∷◌, option_to_list, Option, Some, None, cond}
use Rattle.std.specs.List.{All}
use Rattle.cf_ids.specs.declared.answer.Answer.{Answer}
use Rattle.cf_ids.specs.declared.answer.Answer.TheVariants as answers
use Rattle.cf_ids.specs.Ranges.{IsObjectNumber}
use Rattle.rl_turn.specs.declared.phases.Phase.{Phase}
use Rattle.rl_turn.specs.declared.phases.Phase.TheVariants.{Note}
use Rattle.cf_next.specs.declared.action.Action.{Action}
use Rattle.cf_next.specs.declared.action.Action.TheVariants as actions
use Rattle.cf_next.specs.Stands.{Callee, Turn, Kind, of_block, of_handler, of_run, Frame, Stand}

-- the thread and its stand; for how many more frames, bindings, collected ones and items of work there is room
pub record Standing : Type 0 where
  pub thread : ℕ
  pub stand : Stand
  pub frame_room : ℕ
  pub binding_room : ℕ
  pub callee_room : ℕ
  pub work_room : ℕ

-- ---- the innermost run

abbrev pub run_or : Kind → Option Turn → Option Turn
run_or of_block other = other
run_or (of_handler k) other = other
run_or (of_run r) other = Some r

abbrev pub innermost_run : List Frame → Option Turn
innermost_run [] = None
innermost_run (f ∷ fs) = run_or f.kind (innermost_run fs)

-- the phase of its last entry, or note 1 before the first
abbrev pub phase_or : Option Phase → Phase
phase_or None = Note 1
phase_or (Some p) = p

abbrev pub last_phase : Turn → Phase
last_phase r = phase_or r.last

-- what the handler of a frame was called for, if the frame is of one
abbrev pub kind_callee : Kind → Option Callee
kind_callee of_block = None
kind_callee (of_handler k) = Some k
kind_callee (of_run r) = None

-- ---- room

-- the retain of an object needs no room
abbrev pub is_retain : Action → Bool
is_retain (actions.Retain b n used) = true
is_retain _ = false

-- room for the entry of an action whose list has so many numbers
pub record HasRoom (more : ℕ) (s : Standing) : Type 0 where
  pub frames : 1 ≤ s.frame_room
  pub bindings : 1 ≤ s.binding_room
  pub callees : more ≤ s.callee_room
  pub work : more + 4 ≤ s.work_room

-- room that is there stays
pub record RoomStays (s s' : Standing) : Type 0 where
  pub frames : s.frame_room ≤ s'.frame_room
  pub bindings : s.binding_room ≤ s'.binding_room
  pub callees : s.callee_room ≤ s'.callee_room
  pub work : s.work_room ≤ s'.work_room

abbrev pub HasRoomFor : Action → (more : ℕ) → Standing → Type 0
HasRoomFor a more s = cond (is_retain a && more == 0) (Unit {0}) (HasRoom more s)

-- ---- an entry

-- what an entry finalised: that to which it takes the last reference away
abbrev pub finals_in : Option ℕ → Answer → List ℕ
finals_in cut (answers.Final class) = option_to_list cut
finals_in cut _ = []

-- the numbers that an entry lists are those of objects; a `post` lists registrations
abbrev pub posts : Action → Bool
posts (actions.Post b n used) = true
posts _ = false

abbrev pub ListsObjects : Action → List ℕ → Type 0
ListsObjects a list = cond (posts a) (Unit {0}) (All IsObjectNumber list)
