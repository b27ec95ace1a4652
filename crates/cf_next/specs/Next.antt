-- The action that is written for what a thread demands. This project's own.
use Rattle.std.specs.Prelude.{ℕ, zero, suc, ◌-◌, List, [], ◌∷◌, length, map, Option, Some, None}
use Rattle.rl_turn.specs.declared.phases.Phase.{Phase}
use Rattle.rl_turn.specs.declared.phases.Phase.TheVariants as phases
use Rattle.cf_syntax.specs.declared.script.Script.{Script}
use Rattle.cf_syntax.specs.Mentions.{pad}
use Rattle.cf_syntax.specs.BlockLines.{BlockLine, begins, claims, says, packs, line_uses, uses_in, thread_block, handler_block}
use Rattle.cf_next.specs.declared.action.Action.{Action}
use Rattle.cf_next.specs.declared.action.Action.TheVariants as actions
use Rattle.cf_next.specs.Actions.{Site, action_of}
use Rattle.cf_next.specs.Facts.{Facts}
use Rattle.cf_next.specs.Stands.{Binding, look, item_of, Kind, of_block, of_handler, of_run, Frame, Stand}
use Rattle.cf_next.specs.Demands.{Demand, does, ends, returns, owes, spends, drops, calls, enters, closes, demand}

-- the object of a variable, if there is a variable
abbrev pub object_at : List Binding → Option ℕ → Option ℕ
object_at bs None = None
object_at bs (Some v) = look v bs

-- the objects of the variables that a line uses, as three places
abbrev pub used_objects : List Binding → BlockLine → List (Option ℕ)
used_objects bs x = map (object_at bs) (pad (line_uses x))

-- how many lines of a frame's block stand before its first statement
abbrev pub lines_before : Script → Kind → ℕ → ℕ
lines_before s of_block zero = 0
lines_before s of_block (suc t) = length (uses_in (thread_block s (suc t)))
lines_before s (of_handler k) h = 1
lines_before s (of_run r) b = 0

-- the number of a frame's block in the script; 0 if a handler has none
abbrev pub number_or : Option ℕ → ℕ
number_or None = 0
number_or (Some b) = b

-- the number of a frame's block in the script; a run has 0
abbrev pub block_of : Script → Kind → ℕ → ℕ
block_of s of_block b = b
block_of s (of_handler k) h = number_or (handler_block s h)
block_of s (of_run r) b = b

-- where a statement of a frame stands, and the objects that it uses
abbrev pub site_in : Script → Frame → BlockLine → Site
site_in s f x = record {
  block = block_of s f.kind f.block;
  number = f.number - lines_before s f.kind f.block;
  used = used_objects f.bindings x;
}

-- the action of a line; no frame stands before the line by which a handler has its info
abbrev pub line_action : Script → Facts → ℕ → Frame → BlockLine → Action
line_action s facts t f (begins v) = actions.Done
line_action s facts t f (claims k v) = actions.Claim (facts.parcel t k)
line_action s facts t f (says x) = action_of x (site_in s f (says x))
line_action s facts t f (packs u k v) = actions.Pack u (object_at f.bindings v)

-- the action of a phase
abbrev pub phase_action : Phase → Action
phase_action (phases.Note a) = actions.Note a
phase_action phases.Sources = actions.Sources
phase_action phases.Timers = actions.Timers
phase_action phases.Sleep = actions.Sleep
phase_action phases.Test = actions.Test
phase_action phases.Ran = actions.Ran 0

-- the mode of a run
abbrev pub mode_of : Kind → ℕ
mode_of (of_run r) = r.mode
mode_of _ = 0

-- the innermost frame; if there is none, one that has no line
abbrev pub top_frame : List Frame → Frame
top_frame [] = record { kind = of_block; block = 0; number = 0; bindings = []; collected = [] }
top_frame (f ∷ fs) = f

-- the action that is written for a demand
abbrev pub action_in : Script → Facts → ℕ → List Frame → Demand → Action
action_in s facts t fs (does x) = line_action s facts t (top_frame fs) x
action_in s facts t fs ends = actions.Done
action_in s facts t fs returns = actions.Return
action_in s facts t fs (owes o) = actions.Owed o
action_in s facts t fs (spends i) = actions.Spend i
action_in s facts t fs (drops b k o) = actions.DropSlot b k o
action_in s facts t fs (calls k c) = actions.Call c.handler (item_of k) c.info
action_in s facts t fs (enters p) = phase_action p
action_in s facts t fs closes = actions.Ran (mode_of (top_frame fs).kind)

-- the same, if there is a demand
abbrev pub action_if : Script → Facts → ℕ → List Frame → Option Demand → Option Action
action_if s facts t fs None = None
action_if s facts t fs (Some d) = Some (action_in s facts t fs d)

-- the next action of a thread by its stand: none if it is done
abbrev pub next : Script → Facts → ℕ → Stand → Option Action
next s facts t stand = action_if s facts t stand.frames (demand s facts t stand)
