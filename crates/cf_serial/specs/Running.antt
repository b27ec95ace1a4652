-- A serial run as far as it has come, what it does next, and what a step does to it. This project's own.
use Rattle.std.specs.Prelude.{◌≡◌, ℕ, ◌+◌, ◌*◌, ◌<◌, ◌≤◌, Bool, true, false, List, length, Option, Some, None, IsSomeAnd, ◌==◌, if◌then◌else◌}
use Rattle.cf_ids.specs.declared.limits.TheConstants.{MODES, THREADS}
use Rattle.cf_syntax.specs.declared.script.Script.{Script}
use Rattle.cf_syntax.specs.Owned.{Owned}
use Rattle.cf_graph.specs.Edges.{degree}
use Rattle.cf_next.specs.Actions.{cut_of}
use Rattle.cf_model.specs.declared.entry.Entry.{Entry}
use Rattle.cf_model.specs.declared.ending.Ending.{Ending}
use Rattle.cf_model.specs.declared.ending.Ending.TheVariants as endings
use Rattle.cf_model.specs.Journals.{After, all_sleep, can_go, has_stalled}
use Rattle.cf_model.specs.Serial.{IsSerial, picked, pointer_of}
use Rattle.cf_model.specs.Endings.{Ends}
use Rattle.cf_world.specs.declared.next.Next.{Next}
use Rattle.cf_world.specs.declared.next.Next.TheVariants as nexts
use Rattle.cf_world.specs.declared.next.LeadNext.{LeadNext}
use Rattle.cf_world.specs.declared.next.LeadNext.TheVariants as leads
use Rattle.cf_world.specs.Worlds.{acting, lead_in, prepared}
use Rattle.cf_serial.specs.declared.run.Run.{Run}
use Rattle.cf_serial.specs.declared.run.Turn.{Turn}
use Rattle.cf_serial.specs.declared.run.Turn.TheVariants as turns
use Rattle.cf_serial.specs.Serial.{AreDegrees, ClockFits, StopsSerially}

-- a run as far as it has come: its journal is in the serial order and no longer than the limit; a journal with a stall
-- leaves all asleep; its pointer, its numbers and its mark of a stall are those of the journal; and the script has no
-- more modes than it may
pub record IsRun (r : Run) : Type 0 where
  pub script : Script
  pub begun : r.world.script ≡ Some script
  pub owned : Owned script
  pub most : r.world.limit ≤ 4000000
  pub within : length r.world.journal ≤ r.world.limit
  pub serial : IsSerial script r.world.journal
  pub threads_are : r.threads ≡ script.thread_count
  pub few_threads : r.threads ≤ THREADS
  pub stalled_is : r.stalled ≡ has_stalled r.world.journal
  pub asleep : has_stalled r.world.journal ≡ true → all_sleep script (After script r.world.journal) ≡ true
  pub pointer_is : r.pointer ≡ pointer_of script r.world.journal
  pub numbers_are : AreDegrees (length (After script r.world.journal).parts.objects)
      (After script r.world.journal).edges r.numbers.items
  pub few_modes : length script.modes ≤ MODES

-- ---- what comes next

-- the thread that the pointer picks; while no script has begun there is none
abbrev pub picked_by : Option Script → List Entry → ℕ → Option ℕ
picked_by None es pointer = None
picked_by (Some s) es pointer = picked s (After s es) pointer

abbrev pub picks : Run → Option ℕ
picks r = picked_by r.world.script r.world.journal r.pointer

-- a thread can go on
abbrev pub goes_by : Option Script → List Entry → ℕ → Bool
goes_by None es t = false
goes_by (Some s) es t = can_go (After s es) t

abbrev pub can_act : Run → ℕ → Bool
can_act r t = goes_by r.world.script r.world.journal t

-- the pointer picks a thread, for whose next action there is room, and which takes a reference to this object away, or
-- none
pub record ActsNext (r : Run) (t : ℕ) (cut : Option ℕ) : Type 0 where
  pub picked_is : picks r ≡ Some t
  pub room : r.world.room ≡ Some t
  pub acts : IsSomeAnd (acting r.world t) (λ a. cut_of a ≡ cut)

-- the pointer picks none, and the lead does this
pub record LeadsNext (r : Run) (lead : LeadNext) : Type 0 where
  pub none : picks r ≡ None
  pub leads : lead_in r.world ≡ lead
  pub below : length r.world.journal < r.world.limit

-- a journal has an ending, and stops as the serial run does
abbrev pub EndsBy : Option Script → ℕ → List Entry → Ending → Type 0
EndsBy None limit es ending = ⊥
EndsBy (Some s) limit es ending = Ends s limit es ending × StopsSerially s ending es

-- who makes the next entry, or how the run ends
abbrev pub Goes : Run → Turn → Type 0
Goes r (turns.Acts t cut) = ActsNext r t cut
Goes r (turns.Ticks date) = LeadsNext r (leads.Tick date)
Goes r turns.Stalls = LeadsNext r leads.Stall
Goes r (turns.Over ending) = EndsBy r.world.script r.world.limit r.world.journal ending

-- the turn of a thread that is picked; none if it can't go on
abbrev pub turn_by : ℕ → Next → Option Turn
turn_by t (nexts.Act a) = Some (turns.Acts t (cut_of a))
turn_by t nexts.Limit = Some (turns.Over endings.Limit)
turn_by t nexts.Full = Some (turns.Over endings.Full)
turn_by t _ = None

-- a thread can't go on, or it has this turn if the pointer picks it
abbrev pub TurnOf : Run → ℕ → Option Turn → Type 0
TurnOf r t None = can_act r t ≡ false
TurnOf r t (Some turn) = (can_act r t ≡ true) × (picks r ≡ Some t → Goes r turn)

-- how a run ends in which nothing is left to do, after a stall or not
abbrev pub ending_by : Bool → Ending
ending_by true = endings.Stalled
ending_by false = endings.Done

-- a turn of the lead, if the journal has room for its entry
abbrev pub turn_below : ℕ → Turn → Turn
turn_below room turn = if room == 0 then turns.Over endings.Limit else turn

-- the turn of the lead, by what it does next, after a stall or not, with room for so many entries
abbrev pub lead_turn_by : LeadNext → Bool → ℕ → Turn
lead_turn_by leads.Over stalled room = turns.Over (ending_by stalled)
lead_turn_by leads.Busy stalled room = turns.Over (ending_by stalled)
lead_turn_by (leads.Tick date) stalled room = turn_below room (turns.Ticks date)
lead_turn_by leads.Stall stalled room = turn_below room turns.Stalls

-- a run goes on
abbrev pub goes_on : Turn → Bool
goes_on (turns.Over ending) = false
goes_on _ = true

-- to at least which time the lead ticks, if it does
abbrev pub date_of : Turn → Option ℕ
date_of (turns.Ticks date) = Some date
date_of _ = None

-- how a run ends; one that goes on has no ending, and this word stands for it
abbrev pub ending_of : Turn → Ending
ending_of (turns.Over ending) = ending
ending_of _ = endings.Stalled

-- ---- what a call changes

-- a run with room for a thread's next action
abbrev pub prepared_run : ℕ → Run → Run
prepared_run t r = record r { world = prepared t r.world }

-- the journal, its script and its limit are the same
pub record IsSameJournal (before after : Run) : Type 0 where
  pub script : after.world.script ≡ before.world.script
  pub limit : after.world.limit ≡ before.world.limit
  pub journal : after.world.journal ≡ before.world.journal

-- a run after one entry more
pub record IsStep (before after : Run) : Type 0 where
  pub run : IsRun after
  pub script : after.world.script ≡ before.world.script
  pub limit : after.world.limit ≡ before.world.limit
  pub more : length after.world.journal ≡ length before.world.journal + 1

-- a clock that fits the journal of one run fits that of another, once it tells other times
abbrev pub ClockKeeps : (before after : Run) → (now next : Option (List ℕ)) → Type 0
ClockKeeps before after now next =
    (s : Script) (begin : Option (List ℕ)) → before.world.script ≡ Some s
    → ClockFits s before.world.journal begin now → ClockFits s after.world.journal begin next

-- the turn of a thread that can go on, the first of a range
pub record IsFirst (before after : Run) (low high : ℕ) (turn : Turn) : Type 0 where
  pub thread : ℕ
  pub least : low ≤ thread
  pub most : thread < high
  pub earlier : (u : ℕ) → low ≤ u → u < thread → can_act before u ≡ false
  pub prepared_is : after ≡ prepared_run thread before
  pub turn_is : TurnOf after thread (Some turn)

-- none of a range can go on, which leaves the run, or there is a first one
abbrev pub FirstOf : (before after : Run) → (low high : ℕ) → Option Turn → Type 0
FirstOf before after low high None = (after ≡ before) × ((u : ℕ) → low ≤ u → u < high → can_act before u ≡ false)
FirstOf before after low high (Some turn) = IsFirst before after low high turn
