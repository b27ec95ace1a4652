-- How an entry moves its thread on, from the demand, the answer, what the entry finalised, and the list of what it
-- collected or gave out. After the Memory Management guide what is given out is released, and what is finalised
-- gives up its slots; the order of that work is this project's own.
use Rattle.std.specs.Prelude.{ℕ, ◌+◌, ◌-◌, ◌^◌, min, Bool, true, false, ◌&&◌, not, List, [], ◌∷◌, ◌++◌, map, drop, Option, Some, None, is_some, option_to_list, if◌then◌else◌}
use Rattle.cf_ids.specs.declared.answer.Answer.{Answer}
use Rattle.cf_ids.specs.declared.answer.Answer.TheVariants as answers
use Rattle.rl_turn.specs.declared.phases.Phase.{Phase}
use Rattle.cf_syntax.specs.declared.statement.Statement.TheVariants as forms
use Rattle.cf_syntax.specs.declared.mention.Ownership.{Ownership}
use Rattle.cf_syntax.specs.declared.mention.Ownership.TheVariants.{Keeps, Binds, Retains, Releases}
use Rattle.cf_syntax.specs.BlockLines.{BlockLine, claims, says, line_ownership}
use Rattle.cf_next.specs.Facts.{Callout, Facts}
use Rattle.cf_next.specs.Stands.{Binding, look, Role, as_observer, as_source, as_timer, as_receiver, Callee, callee, item_of, Turn, Kind, of_block, of_handler, of_run, Frame, Work, release_of, spend_of, slots_of, Stand}
use Rattle.cf_next.specs.Turns.{role_at, kind_after}
use Rattle.cf_next.specs.Demands.{Demand, does, ends, returns, owes, spends, drops, calls, enters, closes, callees_left, work_left}

-- ---- frames after a line

-- the object that an answer names
abbrev pub object_in : Answer → Option ℕ
object_in (answers.Object o) = Some o
object_in _ = None

-- what a line binds its variable to: what the place of the parcel has, or what the answer names
abbrev pub bound_object : Facts → ℕ → Answer → BlockLine → Option ℕ
bound_object facts t answer (claims k v) = facts.parcel t k
bound_object facts t answer _ = object_in answer

-- the binding that a line makes, if it binds a variable
abbrev pub bindings_by : Ownership → Option ℕ → List Binding
bindings_by Keeps o = []
bindings_by (Binds v) o = record { variable = v; object = o } ∷ []
bindings_by (Retains v) o = []
bindings_by (Releases v) o = []

-- a line posts a notice
abbrev pub is_post : BlockLine → Bool
is_post (says (forms.Post name info)) = true
is_post _ = false

-- what is to be called after a line: a notice's registrations, which a `post` lists
abbrev pub receivers_in : BlockLine → List ℕ → List Callee
receivers_in x list = if is_post x then map (callee as_receiver) list else []

-- what is to be released after a line: what it has given out, which every line but a `post` lists
abbrev pub owed_by : BlockLine → List ℕ → List Work
owed_by x list = if is_post x then [] else map release_of list

-- how many lines a line moves its frame on: one, to the line after it
abbrev pub lines_passed : BlockLine → Answer → ℕ
lines_passed x answer = 1

-- a frame after a line of it is done
abbrev pub line_done : Facts → ℕ → BlockLine → Answer → List ℕ → Frame → Frame
line_done facts t x answer list f = record {
  kind = f.kind;
  block = f.block;
  number = f.number + lines_passed x answer;
  bindings = bindings_by (line_ownership x) (bound_object facts t answer x) ++ f.bindings;
  collected = receivers_in x list;
}

-- ---- the frame of a run

-- a run of a loop began
abbrev pub is_entered : Answer → Bool
is_entered answers.Entered = true
is_entered _ = false

-- a deadline is at most 2^64 - 1
abbrev pub deadline_of : ℕ → Option ℕ → Option ℕ
deadline_of time None = None
deadline_of time (Some n) = Some (min (time + n) (2 ^ 64 - 1))

-- the frame of a run that begins
abbrev pub run_frame : (mode : ℕ) (deadline : Option ℕ) (once : Bool) → Frame
run_frame m deadline once = record {
  kind = of_run (record {
    mode = m;
    once = once;
    deadline = deadline;
    last = None;
    handled = false;
    stopped = false;
    result = None;
  });
  block = 0;
  number = 0;
  bindings = [];
  collected = [];
}

-- the frame that a line opens, if it does: that of a run that began
abbrev pub run_frames : ℕ → BlockLine → Bool → List Frame
run_frames time (says (forms.Run m limit once)) true = run_frame m (deadline_of time limit) once ∷ []
run_frames time _ _ = []

-- ---- frames after other demands

-- the frames with the innermost one changed
abbrev pub on_top : (Frame → Frame) → List Frame → List Frame
on_top f [] = []
on_top f (x ∷ xs) = f x ∷ xs

-- a turn after a callout: it remembers that a source was called
abbrev pub with_handled : Role → Turn → Turn
with_handled as_source r = record r { handled = true }
with_handled _ r = r

-- the same of a frame's kind
abbrev pub kind_called : Role → Kind → Kind
kind_called role (of_run r) = of_run (with_handled role r)
kind_called role k = k

-- a frame that has called one: those before it were passed over
abbrev pub call_done : Facts → ℕ → Role → Frame → Frame
call_done facts t role f =
    record f { kind = kind_called role f.kind; collected = callees_left facts t f.kind f.collected }

-- the frame of a handler, after the line by which it has its info in variable 0
abbrev pub handler_frame : Callee → Callout → Frame
handler_frame k c = record {
  kind = of_handler k;
  block = c.handler;
  number = 1;
  bindings = record { variable = 0; object = c.info } ∷ [];
  collected = [];
}

-- a frame after a phase, with what that collected
abbrev pub phase_done : Facts → ℕ → Phase → List ℕ → Frame → Frame
phase_done facts t p list f =
    record f { kind = kind_after facts t p f.kind; collected = map (callee (role_at p)) list }

-- the frames after an entry: a line that begins a run and a callout put a frame on top, the end of a handler and that
-- of a run take it away
abbrev pub frames_after : Facts → ℕ → Demand → Answer → List ℕ → List Frame → List Frame
frames_after facts t (does x) answer list fs =
    run_frames facts.time x (is_entered answer) ++ on_top (line_done facts t x answer list) fs
frames_after facts t ends answer list fs = fs
frames_after facts t returns answer list fs = drop 1 fs
frames_after facts t (owes o) answer list fs = fs
frames_after facts t (spends i) answer list fs = fs
frames_after facts t (drops b k o) answer list fs = fs
frames_after facts t (calls k c) answer list fs = handler_frame k c ∷ on_top (call_done facts t k.role) fs
frames_after facts t (enters p) answer list fs = on_top (phase_done facts t p list) fs
frames_after facts t closes answer list fs = drop 1 fs

-- ---- work after an entry

-- an item is spent when its handler returns: a timer without a next date, and an observer that is called once, if it
-- is still valid
abbrev pub is_spent : Facts → Role → ℕ → Bool
is_spent facts as_timer i = facts.is_valid i && not (is_some (facts.next_date i))
is_spent facts as_observer i = facts.is_valid i && not (facts.repeats i)
is_spent facts _ i = false

-- the item with which a handler was called, if there is one
abbrev pub kind_item : Kind → Option ℕ
kind_item (of_handler k) = item_of k
kind_item _ = None

-- the item that is to be spent as its handler returns, if it is
abbrev pub spend_work : Facts → Kind → List Work
spend_work facts (of_handler k) = if is_spent facts k.role k.number then spend_of k.number ∷ [] else []
spend_work facts _ = []

-- the info of the innermost frame
abbrev pub top_info : List Frame → Option ℕ
top_info [] = None
top_info (f ∷ fs) = look 0 f.bindings

-- the kind of the innermost frame; that of a block if there is no frame
abbrev pub top_kind : List Frame → Kind
top_kind [] = of_block
top_kind (f ∷ fs) = f.kind

-- the release of an object, if there is one
abbrev pub releases_of : Option ℕ → List Work
releases_of o = map release_of (option_to_list o)

-- after a handler: the release of its info, the item if it is spent, and the release of the item
abbrev pub return_work : Facts → List Frame → List Work
return_work facts fs =
    releases_of (top_info fs) ++ (spend_work facts (top_kind fs) ++ releases_of (kind_item (top_kind fs)))

-- new work comes in front of what is left
abbrev pub work_after : Facts → List Frame → Demand → List ℕ → List Work → List Work
work_after facts fs (does x) list work = owed_by x list
work_after facts fs ends list work = []
work_after facts fs returns list work = return_work facts fs
work_after facts fs (owes o) list work = work_left facts work
work_after facts fs (spends i) list work = map release_of list ++ work_left facts work
work_after facts fs (drops b k o) list work = slots_of b (k + 1) ∷ work_left facts work
work_after facts fs (calls k c) list work = []
work_after facts fs (enters p) list work = []
work_after facts fs closes list work = []

-- the slots of what was finalised, from the first on
abbrev pub bodies_of : List ℕ → List Work
bodies_of finals = map (λ o. slots_of o 0) finals

-- the block of a thread is at its end
abbrev pub is_end : Demand → Bool
is_end ends = true
is_end _ = false

-- the stand after an entry
abbrev pub advanced : Facts → ℕ → Demand → Answer → (finals list : List ℕ) → Stand → Stand
advanced facts t d answer finals list stand = record {
  frames = frames_after facts t d answer list stand.frames;
  work = bodies_of finals ++ work_after facts stand.frames d list stand.work;
  is_done = is_end d;
}
