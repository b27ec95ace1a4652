-- What a world is to its callers: its script, its limit, its journal, what its last `apply` gained, and for whose next
-- action there is room. All else of it is the state after the journal. This project's own.
use Rattle.std.specs.Prelude.{◌≡◌, ℕ, ◌<◌, ◌≤◌, not, ◌&&◌, nat_le, List, [], ◌∷◌, ◌++◌, length, Option, Some, None, ◌==◌, if◌then◌else◌}
use Rattle.cf_ids.specs.declared.limits.TheConstants.{OBJECTS}
use Rattle.cf_ids.specs.declared.answer.Answer.TheVariants as answers
use Rattle.cf_ids.specs.declared.answer.Ended.{Ended}
use Rattle.cf_ids.specs.declared.answer.Ended.TheVariants.{More, Last}
use Rattle.cf_syntax.specs.declared.script.Script.{Script}
use Rattle.cf_syntax.specs.Mentions.{first_of}
use Rattle.cf_syntax.specs.Owned.{Owned}
use Rattle.cf_graph.specs.Edges.{Reference, degree}
use Rattle.cf_graph.specs.Flows.{gained_by}
use Rattle.cf_next.specs.declared.action.Action.{Action}
use Rattle.cf_next.specs.declared.action.Action.TheVariants as actions
use Rattle.cf_model.specs.declared.entry.Entry.{Entry}
use Rattle.cf_model.specs.State.{State, stand_at, flags_at}
use Rattle.cf_model.specs.Steps.{demanded, answer_if}
use Rattle.cf_model.specs.Flowing.{flow_in}
use Rattle.cf_model.specs.Coming.{next_retains}
use Rattle.cf_model.specs.Journals as journals
use Rattle.cf_model.specs.Journals.{After, IsLegal, makes, sleeps, lead, lead_next}
use Rattle.cf_world.specs.declared.next.Next.{Next}
use Rattle.cf_world.specs.declared.next.Next.TheVariants as nexts
use Rattle.cf_world.specs.declared.next.LeadNext.{LeadNext}
use Rattle.cf_world.specs.declared.next.LeadNext.TheVariants as leads

-- what a world is to its callers: its script, its limit, its journal, what its last `apply` gained, and for whose next
-- action there is room
pub record WorldView : Type 0 where
  pub script : Option Script
  pub limit : ℕ
  pub journal : List Entry
  pub gained : List ℕ
  pub room : Option ℕ

-- no script has begun
abbrev pub nowhere : WorldView
nowhere = record { script = None; limit = 0; journal = []; gained = []; room = None }

-- a world by what has begun, if a script has
abbrev pub world_of : Option WorldView → WorldView
world_of None = nowhere
world_of (Some w) = w

-- ---- what is there

-- the references that there are
abbrev pub edges_by : Option Script → List Entry → List Reference
edges_by None journal = []
edges_by (Some s) journal = (After s journal).edges

abbrev pub edges_in : WorldView → List Reference
edges_in w = edges_by w.script w.journal

-- how many objects were made
abbrev pub made_by : Option Script → List Entry → ℕ
made_by None journal = 0
made_by (Some s) journal = length (After s journal).parts.objects

abbrev pub made_in : WorldView → ℕ
made_in w = made_by w.script w.journal

-- no script has begun, or this is a thread of the script
abbrev pub IsThreadBy : Option Script → ℕ → Type 0
IsThreadBy None t = Unit {0}
IsThreadBy (Some s) t = t < s.thread_count

abbrev pub IsThread : WorldView → ℕ → Type 0
IsThread w t = IsThreadBy w.script t

-- ---- what a thread does next

-- an action is at the limit, makes an object too many, or may be done
abbrev pub next_below : Script → (limit : ℕ) → List Entry → ℕ → Action → Next
next_below s limit journal t a =
    if nat_le limit (length journal) then nexts.Limit
    else (if makes s (After s journal) t && nat_le OBJECTS (length (After s journal).parts.objects) then nexts.Full
    else nexts.Act a)

-- the same, if there is an action
abbrev pub next_if : Script → (limit : ℕ) → List Entry → ℕ → Option Action → Next
next_if s limit journal t None = nexts.Done
next_if s limit journal t (Some a) = next_below s limit journal t a

-- what a thread does next: it waits until it is started; then it is done, asleep, or has an action
abbrev pub next_of : Script → (limit : ℕ) → List Entry → ℕ → Next
next_of s limit journal t =
    let st = After s journal in
    if not (flags_at t st.parts.flags).is_started then nexts.Waiting
    else (if (stand_at t st.stands).is_done then nexts.Done
    else (if sleeps st t then nexts.Asleep
    else next_if s limit journal t (journals.Next s st t)))

-- while no script has begun, each thread waits
abbrev pub next_by : Option Script → WorldView → ℕ → Next
next_by None w t = nexts.Waiting
next_by (Some s) w t = next_of s w.limit w.journal t

-- what a thread of a world does next
abbrev pub next_in : WorldView → ℕ → Next
next_in w t = next_by w.script w t

-- the action that may be done now, if there is one
abbrev pub act_in : Next → Option Action
act_in (nexts.Act a) = Some a
act_in _ = None

-- the action that a thread of a world may do now
abbrev pub acting : WorldView → ℕ → Option Action
acting w t = act_in (next_in w t)

-- the objects of a thread's next actions, as far as they are retains
abbrev pub retains_by : Option Script → List Entry → ℕ → List ℕ
retains_by None journal t = []
retains_by (Some s) journal t = next_retains s (After s journal) t

abbrev pub retains_in : WorldView → ℕ → List ℕ
retains_in w t = retains_by w.script w.journal t

-- the object that an action retains, if it does
abbrev pub retained_by : Action → Option ℕ
retained_by (actions.Retain b n used) = first_of used
retained_by _ = None

-- ---- entries

-- the entry of an action: its answer is the one that the state gives
abbrev pub entry_of : Script → ℕ → State → Action → Entry
entry_of s t st a = record { thread = t; action = a; answer = answer_if s t st (demanded s st t) }

-- a world after the entry of an action, if there is a script and an action; `gained` by what it was and by what
-- the entry adds
abbrev pub entered_by : Option Script → Option Action → ℕ → (List ℕ → List ℕ → List ℕ) → WorldView → WorldView
entered_by None a t gained w = w
entered_by (Some s) None t gained w = w
entered_by (Some s) (Some a) t gained w = record {
  script = w.script;
  limit = w.limit;
  journal = w.journal ++ entry_of s t (After s w.journal) a ∷ [];
  gained = gained w.gained (gained_by (flow_in s t (After s w.journal) a));
  room = None;
}

-- a world after the entry of a thread's next action, which tells what it gains
abbrev pub applied : ℕ → WorldView → WorldView
applied t w = entered_by w.script (acting w t) t (λ before gained. gained) w

-- the same of an entry that leaves what was gained before
abbrev pub entered : ℕ → WorldView → WorldView
entered t w = entered_by w.script (acting w t) t (λ before gained. before) w

-- a world with room for a thread's next action, if it may do one
abbrev pub room_if : Option Action → ℕ → WorldView → WorldView
room_if None t w = w
room_if (Some a) t w = record w { room = Some t }

abbrev pub prepared : ℕ → WorldView → WorldView
prepared t w = room_if (acting w t) t w

-- what a release leaves of so many references: of one it leaves none
abbrev pub ended_at : ℕ → Ended
ended_at n = if n == 1 then Last else More

-- what a release of a reference to an object leaves in a world
abbrev pub ended_in : WorldView → ℕ → Ended
ended_in w o = ended_at (degree o (edges_in w))

-- ---- the lead

-- what the lead does next, as callers see it
abbrev pub lead_of : journals.LeadNext → LeadNext
lead_of journals.over = leads.Over
lead_of journals.busy = leads.Busy
lead_of (journals.ticks date) = leads.Tick date
lead_of journals.stalls = leads.Stall

-- what the lead of a world does next; while no script has begun, all is over
abbrev pub lead_by : Option Script → List Entry → LeadNext
lead_by None journal = leads.Over
lead_by (Some s) journal = lead_of (lead_next s journal)

abbrev pub lead_in : WorldView → LeadNext
lead_in w = lead_by w.script w.journal

-- the lead ticks next, and the time is at least the least date
abbrev pub IsTick : LeadNext → ℕ → Type 0
IsTick (leads.Tick date) time = date ≤ time
IsTick _ time = ⊥

-- a world after an entry of the lead
abbrev pub led : Action → WorldView → WorldView
led a w = record w {
  journal = w.journal ++ record { thread = lead; action = a; answer = answers.Ok } ∷ [];
  room = None;
}

-- ---- legal worlds

-- the journal is legal and its script is owned, or none has begun and there is no entry
abbrev pub LegalBy : Option Script → List Entry → Type 0
LegalBy None journal = journal ≡ []
LegalBy (Some s) journal = Owned s × IsLegal s journal

-- a world's journal is legal, and its script is owned
abbrev pub IsLegalWorld : WorldView → Type 0
IsLegalWorld w = LegalBy w.script w.journal
