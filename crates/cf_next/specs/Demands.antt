-- What a thread demands next: the first item of its work that has something left, then what its innermost frame has
-- collected and still fits, then the next line or phase of that frame. This project's own; that a collected source or
-- timer is looked at again before it is called is after CFRunLoop.c.
use Rattle.std.specs.Prelude.{ℕ, Bool, true, false, ◌&&◌, not, List, [], ◌∷◌, Option, Some, None, is_some, slice_get, if◌then◌else◌}
use Rattle.rl_base.specs.Dates.{has_come}
use Rattle.rl_turn.specs.declared.phases.Phase.{Phase}
use Rattle.rl_turn.specs.declared.phases.Phase.TheVariants.{Ran}
use Rattle.cf_syntax.specs.declared.script.Script.{Script}
use Rattle.cf_syntax.specs.BlockLines.{BlockLine, thread_lines, handler_lines}
use Rattle.cf_next.specs.Facts.{Callout, Facts}
use Rattle.cf_next.specs.Stands.{Role, as_observer, as_source, as_timer, as_receiver, Callee, Turn, Kind, of_block, of_handler, of_run, Frame, Work, release_of, spend_of, slots_of, Stand}
use Rattle.cf_next.specs.Turns.{phase_due}

-- a line of the innermost frame's block; the end of a thread's block; the end of a handler's; the release of an
-- object that was given out; an item that is invalidated; a slot of a finalised body, at its place; a callout, with
-- its handler and its info; a phase of the run; and the end of the run
pub data Demand : Type 0 where
  does : BlockLine → Demand
  ends : Demand
  returns : Demand
  owes : ℕ → Demand
  spends : ℕ → Demand
  drops : (body place object : ℕ) → Demand
  calls : Callee → Callout → Demand
  enters : Phase → Demand
  closes : Demand

-- ---- what is called

-- what was collected still fits: a source if it is signalled, and no other one was called in the turn of a run that
-- ends with one; a timer if its date has come
abbrev pub role_fits : Facts → Turn → Role → ℕ → Bool
role_fits facts r as_observer i = true
role_fits facts r as_source i = facts.is_signalled i && not (r.once && r.handled)
role_fits facts r as_timer i = has_come (facts.next_date i) facts.time
role_fits facts r as_receiver i = false

-- an item that was collected still fits: the mode of the run holds it, it is valid, and it fits by its part
abbrev pub item_fits : Facts → ℕ → Turn → Role → ℕ → Bool
item_fits facts t r role i = facts.holds t r.mode i && (facts.is_valid i && role_fits facts r role i)

-- the callout of an item that still fits
abbrev pub item_callout : Facts → ℕ → Kind → Role → ℕ → Option Callout
item_callout facts t (of_run r) role i = if item_fits facts t r role i then facts.callout i else None
item_callout facts t of_block role i = None
item_callout facts t (of_handler k) role i = None

-- the callout of what was collected: of an item that still fits, and of a registration that is still there
abbrev pub callout_of : Facts → ℕ → Kind → Role → ℕ → Option Callout
callout_of facts t kind as_receiver n = facts.receiver n
callout_of facts t kind role n = item_callout facts t kind role n

-- a callout comes before what else there is
abbrev pub call_if : Callee → Option Callout → Option Demand → Option Demand
call_if k None other = other
call_if k (Some c) other = Some (calls k c)

-- the first of the collected ones that still fits is called, and those before it are passed over
abbrev pub call_demand : Facts → ℕ → Kind → List Callee → Option Demand
call_demand facts t kind [] = None
call_demand facts t kind (k ∷ ks) = call_if k (callout_of facts t kind k.role k.number) (call_demand facts t kind ks)

-- those after the one that is called
abbrev pub callees_left : Facts → ℕ → Kind → List Callee → List Callee
callees_left facts t kind [] = []
callees_left facts t kind (k ∷ ks) =
    if is_some (callout_of facts t kind k.role k.number) then ks else callees_left facts t kind ks

-- ---- work

-- a slot that is left comes before what else there is
abbrev pub slot_if : (b k : ℕ) → Option ℕ → Option Demand → Option Demand
slot_if b k None other = other
slot_if b k (Some o) other = Some (drops b k o)

-- the first item of work that has something left
abbrev pub work_demand : Facts → List Work → Option Demand
work_demand facts [] = None
work_demand facts (release_of o ∷ work) = Some (owes o)
work_demand facts (spend_of i ∷ work) = Some (spends i)
work_demand facts (slots_of b k ∷ work) = slot_if b k (facts.slot b k) (work_demand facts work)

-- the work after it
abbrev pub work_left : Facts → List Work → List Work
work_left facts [] = []
work_left facts (release_of o ∷ work) = work
work_left facts (spend_of i ∷ work) = work
work_left facts (slots_of b k ∷ work) = if is_some (facts.slot b k) then work else work_left facts work

-- ---- frames

-- the lines of a frame's block; a run has none
abbrev pub frame_lines : Script → Kind → ℕ → List BlockLine
frame_lines s of_block b = thread_lines s b
frame_lines s (of_handler k) h = handler_lines s h
frame_lines s (of_run r) b = []

-- a line comes before the end of its block
abbrev pub line_or : Option BlockLine → Demand → Demand
line_or None d = d
line_or (Some x) d = does x

-- the phase that a run enters; a run whose last phase is over closes
abbrev pub phase_demand : Option Phase → Demand
phase_demand None = closes
phase_demand (Some Ran) = closes
phase_demand (Some p) = enters p

-- what a frame demands by what it is: its next line, or its next phase
abbrev pub kind_demand : Script → Facts → ℕ → Kind → (block number : ℕ) → Demand
kind_demand s facts t of_block b n = line_or (slice_get (thread_lines s b) n) ends
kind_demand s facts t (of_handler k) h n = line_or (slice_get (handler_lines s h) n) returns
kind_demand s facts t (of_run r) b n = phase_demand (phase_due facts t r r.last)

-- the first of two demands
abbrev pub or_else : Option Demand → Option Demand → Option Demand
or_else None other = other
or_else (Some d) other = Some d

-- what the innermost frame demands: what it has collected comes first
abbrev pub frame_demand : Script → Facts → ℕ → List Frame → Option Demand
frame_demand s facts t [] = None
frame_demand s facts t (f ∷ fs) =
    or_else (call_demand facts t f.kind f.collected) (Some (kind_demand s facts t f.kind f.block f.number))

-- what a thread demands: nothing if it is done
abbrev pub demand : Script → Facts → ℕ → Stand → Option Demand
demand s facts t stand =
    if stand.is_done then None else or_else (work_demand facts stand.work) (frame_demand s facts t stand.frames)
