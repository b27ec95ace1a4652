-- How contracts see the parts of a thread's frames: as the parts of a stand. This project's own.
use Rattle.std.specs.Prelude.{ℕ, List, [], ◌∷◌, map, reverse, Option, Some, None, nat_lt, slice_index_or, if◌then◌else◌}
use Rattle.cf_ids.specs.declared.limits.TheConstants.{OBJECT_NUMBERS}
use Rattle.cf_next.specs.declared.object.MaybeObject.{MaybeObject}
use Rattle.cf_next.specs.declared.object.Used.{Used}
use Rattle.cf_next.specs.declared.parts.Bound.{Bound}
use Rattle.cf_next.specs.declared.parts.Callee.{Callee as CodeCallee}
use Rattle.cf_next.specs.declared.parts.Callee.TheVariants.{Observer, Source, Timer, Receiver}
use Rattle.cf_next.specs.declared.parts.Run.{Run as CodeRun}
use Rattle.cf_next.specs.declared.parts.Kind.{Kind as CodeKind}
use Rattle.cf_next.specs.declared.parts.Kind.TheVariants.{Block, Handler, Run}
use Rattle.cf_next.specs.declared.parts.Frame.{Frame as CodeFrame}
use Rattle.cf_next.specs.declared.parts.Work.{Work as CodeWork}
use Rattle.cf_next.specs.declared.parts.Work.TheVariants.{Release, Spend, Slots}
use Rattle.cf_next.specs.Facts.{Callout}
use Rattle.cf_next.specs.Stands.{Binding, as_observer, as_source, as_timer, as_receiver, Callee, callee, Turn, Kind, of_block, of_handler, of_run, Frame, Work, release_of, spend_of, slots_of}

-- an item's handler and info, and a registration's handler and observer
abbrev pub callout_of_item : ℕ × Option ℕ → Callout
callout_of_item p = record { handler = p.0; info = p.1 }

abbrev pub callout_of_receiver : ℕ × ℕ → Callout
callout_of_receiver p = record { handler = p.0; info = Some p.1 }

abbrev pub callee_of : CodeCallee → Callee
callee_of (Observer o) = callee as_observer o
callee_of (Source o) = callee as_source o
callee_of (Timer o) = callee as_timer o
callee_of (Receiver r) = callee as_receiver r

abbrev pub turn_of : CodeRun → Turn
turn_of r = record {
  mode = r.mode;
  once = r.once;
  deadline = r.deadline;
  last = r.last;
  handled = r.handled;
  stopped = r.stopped;
  result = r.result;
}

abbrev pub kind_of : CodeKind → Kind
kind_of (Block t) = of_block
kind_of (Handler k h) = of_handler (callee_of k)
kind_of (Run r) = of_run (turn_of r)

abbrev pub work_of : CodeWork → Work
work_of (Release o) = release_of o
work_of (Spend i) = spend_of i
work_of (Slots b k) = slots_of b k

-- the number of the block: that of the thread, or of the handler
abbrev pub block_in : CodeKind → ℕ
block_in (Block t) = t
block_in (Handler k h) = h
block_in (Run r) = 0

-- what is collected is kept with the first one last, and work too
abbrev pub callees_of : List CodeCallee → List Callee
callees_of ks = map callee_of (reverse ks)

abbrev pub works_of : List CodeWork → List Work
works_of ws = map work_of (reverse ws)

-- an object, or none
abbrev pub object_of : MaybeObject → Option ℕ
object_of m = if nat_lt m.number OBJECT_NUMBERS then Some m.number else None

abbrev pub objects_of : Used → List (Option ℕ)
objects_of u = object_of u.first ∷ object_of u.second ∷ object_of u.third ∷ []

-- bindings are kept with the newest last
abbrev pub binding_of : Bound → Binding
binding_of b = record { variable = b.variable; object = object_of b.object }

abbrev pub bindings_of : List Bound → List Binding
bindings_of bs = map binding_of (reverse bs)

-- what a table has for a variable
abbrev pub cell_of : List MaybeObject → ℕ → Option ℕ
cell_of table v = object_of (slice_index_or table v (record { number = 4294967295 }))

-- a frame, with its bindings and what it collected
abbrev pub frame_of : CodeFrame → List Bound → List CodeCallee → Frame
frame_of f bindings collected = record {
  kind = kind_of f.kind;
  block = block_in f.kind;
  number = f.number;
  bindings = bindings_of bindings;
  collected = callees_of collected;
}
