-- Legal journals: each entry is the next action of its thread, or a tick or a stall of the lead; it uses live
-- objects to which its thread has a reference, and has the answer that the state gives. This project's own. That
-- time moves only if every thread sleeps is this project's own too.
use Rattle.std.specs.Prelude.{◌≡◌, ℕ, ◌<◌, Bool, true, false, ◌&&◌, ◌||◌, not, IsTrue, List, [], ◌∷◌, ◌++◌, length, map, Option, Some, None, ◌==◌, if◌then◌else◌}
use Rattle.std.specs.List.{list_all, list_any, AllByRecursion}
use Rattle.cf_ids.specs.declared.limits.TheConstants.{OBJECTS}
use Rattle.cf_ids.specs.declared.answer.Answer.{Answer}
use Rattle.cf_ids.specs.declared.answer.Answer.TheVariants as answers
use Rattle.rl_base.specs.Dates.{has_come, least_date}
use Rattle.cf_syntax.specs.declared.script.Script.{Script}
use Rattle.cf_syntax.specs.Mentions.{makes_object, first_of}
use Rattle.cf_syntax.specs.BlockLines.{says}
use Rattle.cf_graph.specs.declared.edge.Owner.{Owner}
use Rattle.cf_graph.specs.declared.edge.Owner.TheVariants.{Slot}
use Rattle.cf_graph.specs.Owners.{is_at_hand, is_slot}
use Rattle.cf_graph.specs.Holders.{owner_of}
use Rattle.cf_graph.specs.Edges.{Reference, weigh, counted, from_thread}
use Rattle.cf_next.specs.declared.action.Action.{Action}
use Rattle.cf_next.specs.declared.action.Action.TheVariants as actions
use Rattle.cf_next.specs.Actions.{Site, site_of}
use Rattle.cf_next.specs.Demands.{Demand, does}
use Rattle.cf_next.specs.Next.{action_if}
use Rattle.cf_model.specs.declared.entry.Entry.{Entry}
use Rattle.cf_model.specs.State.{Flags, Sleeping, awake, until, State, start, flags_at, stand_at, threads_of, times, left_of, is_live}
use Rattle.cf_model.specs.Known.{facts_of}
use Rattle.cf_model.specs.Steps.{demanded, acted, answer_if, frames_at}

-- ---- threads

-- a thread is started and not done
abbrev pub is_going : State → ℕ → Bool
is_going st t = (flags_at t st.parts.flags).is_started && not (stand_at t st.stands).is_done

-- a loop sleeps
abbrev pub is_asleep : Sleeping → Bool
is_asleep awake = false
is_asleep (until d) = true

-- the loop of a thread sleeps
abbrev pub sleeps : State → ℕ → Bool
sleeps st t = is_asleep (flags_at t st.parts.flags).sleep

-- a thread is started, not done and not asleep
abbrev pub can_go : State → ℕ → Bool
can_go st t = is_going st t && not (sleeps st t)

-- the next action of a thread: none if it is not started, asleep or done
abbrev pub Next : Script → State → ℕ → Option Action
Next s st t = if can_go st t then action_if s (facts_of st) t (frames_at t st) (demanded s st t) else None

-- ---- ticks and stalls

-- the date until which a loop sleeps, if it has one
abbrev pub date_of : Sleeping → Option ℕ
date_of awake = None
date_of (until d) = d

-- the date of a thread that sleeps and is not done
abbrev pub sleeper_date : State → ℕ → Option ℕ
sleeper_date st t = if is_going st t then date_of (flags_at t st.parts.flags).sleep else None

-- the least date of a sleeper, if one has a date
abbrev pub due_date : Script → State → Option ℕ
due_date s st = least_date (map (sleeper_date st) (threads_of s))

-- some thread is started and not done, and each such thread sleeps
abbrev pub all_sleep : Script → State → Bool
all_sleep s st =
    list_any (is_going st) (threads_of s) && list_all (λ t. not (is_going st t) || sleeps st t) (threads_of s)

-- a tick may come if all sleep and one has a date; it goes to a time that is at least the least date
abbrev pub AllowsTick : Script → State → ℕ → Type 0
AllowsTick s st time = IsTrue (all_sleep s st && has_come (due_date s st) time)

-- there is no date
abbrev pub is_none : Option ℕ → Bool
is_none None = true
is_none (Some d) = false

-- a stall may come if all sleep and none has a date
abbrev pub AllowsStall : Script → State → Type 0
AllowsStall s st = IsTrue (all_sleep s st && is_none (due_date s st))

-- a sleep after a tick: it is over if its date is at most the time
abbrev pub wake_at : ℕ → Sleeping → Sleeping
wake_at time awake = awake
wake_at time (until d) = if has_come d time then awake else until d

-- the flags of a thread after a tick
abbrev pub tick_flags : ℕ → Flags → Flags
tick_flags time f = record f { sleep = wake_at time f.sleep }

-- the state after a tick: it has this time, and exactly the sleepers whose date is at most that are awake
abbrev pub ticked : ℕ → State → State
ticked time st = record st { parts = record st.parts { time = time; flags = map (tick_flags time) st.parts.flags } }

-- what the lead does next: nothing, since all are done or the last entry is a stall; nothing, since a thread can go
-- on; a tick at the least date; or a stall
pub data LeadNext : Type 0 where
  over : LeadNext
  busy : LeadNext
  ticks : ℕ → LeadNext
  stalls : LeadNext

-- an action is a stall
abbrev pub is_stall : Action → Bool
is_stall actions.Stall = true
is_stall _ = false

-- a journal has a stall
abbrev pub has_stalled : List Entry → Bool
has_stalled es = list_any (λ e. is_stall e.action) es

-- every thread is done
abbrev pub all_done : Script → State → Bool
all_done s st = list_all (λ t. (stand_at t st.stands).is_done) (threads_of s)

-- the lead ticks at the least date, or stalls if there is none
abbrev pub tick_or_stall : Option ℕ → LeadNext
tick_or_stall None = stalls
tick_or_stall (Some d) = ticks d

-- what the lead does next in a state, after a stall or not
abbrev pub lead_next_in : Script → State → Bool → LeadNext
lead_next_in s st stalled =
    if all_done s st || stalled then over
    else (if all_sleep s st then tick_or_stall (due_date s st) else busy)

-- ---- the state after entries

-- the state after an action of a thread: a tick moves the time, a stall changes nothing, and any other does what the
-- thread demands
abbrev pub after_action : Script → ℕ → State → Action → State
after_action s t st (actions.Tick time) = ticked time st
after_action s t st actions.Stall = st
after_action s t st a = acted s t st (demanded s st t)

-- the state after entries, from a state on
abbrev pub state_from : Script → State → List Entry → State
state_from s st [] = st
state_from s st (e ∷ es) = state_from s (after_action s e.thread st e.action) es

-- the state after a journal
abbrev pub After : Script → List Entry → State
After s es = state_from s (start s) es

-- what the lead does after a journal
abbrev pub lead_next : Script → List Entry → LeadNext
lead_next s es = lead_next_in s (After s es) (has_stalled es)

-- ---- what an entry uses

-- how an action uses an object: it has to be live and at hand; the thread itself has to have a reference to it,
-- since the action takes that; or it has to be live alone, which is so of the observer of a registration
pub data Use : Type 0 where
  reaches : ℕ → Use
  takes : ℕ → Use
  knows : ℕ → Use

-- the use of an object, if there is one
abbrev pub uses_if : (ℕ → Use) → Option ℕ → List Use
uses_if how None = []
uses_if how (Some o) = how o ∷ []

-- each of the objects has to be live and at hand
abbrev pub reaches_all : List (Option ℕ) → List Use
reaches_all [] = []
reaches_all (o ∷ os) = uses_if reaches o ++ reaches_all os

-- the objects that an action of a statement uses
abbrev pub site_uses : Option Site → List Use
site_uses None = []
site_uses (Some site) = reaches_all site.used

-- the objects that an action uses, by what it is
abbrev pub action_uses : Action → List Use
action_uses (actions.Release b n used) = uses_if takes (first_of used)
action_uses (actions.Pack u o) = uses_if takes o
action_uses (actions.Claim o) = uses_if reaches o
action_uses (actions.Owed o) = takes o ∷ []
action_uses (actions.DropSlot b k o) = reaches o ∷ []
action_uses (actions.Call h None info) = uses_if knows info
action_uses (actions.Call h (Some i) info) = reaches i ∷ uses_if reaches info
action_uses (actions.Spend i) = reaches i ∷ []
action_uses a = site_uses (site_of a)

-- an entry that is skipped uses nothing
abbrev pub uses_of : Action → Answer → List Use
uses_of a answers.Skip = []
uses_of a answer = action_uses a

-- the owners through which an action may use an object beside its thread, its parcel and its loop: the body that
-- gives up a slot, and the item that is called, which has its info
abbrev pub owners_of : Action → List Owner
owners_of (actions.DropSlot b k o) = Slot b ∷ []
owners_of (actions.Call h (Some i) info) = Slot i ∷ []
owners_of _ = []

-- the owner is this body
abbrev pub is_same_slot : Owner → Owner → Bool
is_same_slot owner (Slot b) = is_slot b owner
is_same_slot owner _ = false

-- how many references to an object an action may use it by
abbrev pub reaching : ℕ → List Owner → ℕ → Reference → ℕ
reaching t owners o r =
    let owner = owner_of r.holder in
    counted ((r.object == o) && (is_at_hand t owner || list_any (is_same_slot owner) owners))

-- an object is live, and there is a reference by which the action may use it
pub record MayReach (st : State) (t : ℕ) (owners : List Owner) (o : ℕ) : Type 0 where
  pub live : IsTrue (is_live st.parts o)
  pub edge : 0 < weigh (reaching t owners o) st.edges

-- an object is live, and the thread itself has a reference to it
pub record MayTake (st : State) (t o : ℕ) : Type 0 where
  pub live : IsTrue (is_live st.parts o)
  pub edge : 0 < weigh (from_thread t o) st.edges

-- an action may use an object in this way
abbrev pub MayUse : State → ℕ → List Owner → Use → Type 0
MayUse st t owners (reaches o) = MayReach st t owners o
MayUse st t owners (takes o) = MayTake st t o
MayUse st t owners (knows o) = IsTrue (is_live st.parts o)

-- an action may use each of its objects
abbrev pub MayUseAll : State → ℕ → List Owner → List Use → Type 0
MayUseAll st t owners uses = AllByRecursion (MayUse st t owners) uses

-- ---- legal entries

-- a demand is a statement of a form that makes an object, or may make one
abbrev pub makes_line : Option Demand → Bool
makes_line (Some (does (says x))) = makes_object x
makes_line _ = false

-- the next statement of a thread makes an object, or may make one
abbrev pub makes : Script → State → ℕ → Bool
makes s st t = makes_line (demanded s st t)

-- an entry of a thread
pub record IsLegalStep (s : Script) (st : State) (e : Entry) : Type 0 where
  pub next : Next s st e.thread ≡ Some e.action
  pub uses : MayUseAll st e.thread (owners_of e.action) (uses_of e.action e.answer)
  pub answer : e.answer ≡ answer_if s e.thread st (demanded s st e.thread)
  pub room : IsTrue (makes s st e.thread) → length st.parts.objects < OBJECTS

-- the lead is thread 255
abbrev pub lead : ℕ
lead = 255

-- an entry is legal by what its action is: a tick or a stall is the lead's, answers `ok` and is allowed, and any other
-- is a step of its thread
abbrev pub IsLegalAs : Script → State → Entry → Action → Type 0
IsLegalAs s st e (actions.Tick time) = (e.thread ≡ lead) × (e.answer ≡ answers.Ok) × AllowsTick s st time
IsLegalAs s st e actions.Stall = (e.thread ≡ lead) × (e.answer ≡ answers.Ok) × AllowsStall s st
IsLegalAs s st e a = IsLegalStep s st e

-- an entry is legal after a state
abbrev pub IsLegalEntry : Script → State → Entry → Type 0
IsLegalEntry s st e = IsLegalAs s st e e.action

-- no entry follows a stall
abbrev pub IsLastIf : Action → List Entry → Type 0
IsLastIf actions.Stall es = es ≡ []
IsLastIf _ es = Unit {0}

-- each entry is legal after those before it, from a state on
abbrev pub IsLegalFrom : Script → State → List Entry → Type 0
IsLegalFrom s st [] = Unit {0}
IsLegalFrom s st (e ∷ es) =
    IsLegalEntry s st e × IsLastIf e.action es × IsLegalFrom s (after_action s e.thread st e.action) es

-- a journal is legal: each entry is legal after those before it, from the start on
abbrev pub IsLegal : Script → List Entry → Type 0
IsLegal s es = IsLegalFrom s (start s) es

-- ---- whole journals

-- a finalised object has no slot left
abbrev pub HasGivenUp : State → Type 0
HasGivenUp st = (b : ℕ) → 0 < times b st.parts.finalised → left_of st.parts.objects st.parts.dropped b ≡ []

-- a legal journal after which every thread is done, and no slot of a finalised object is left
pub record IsWhole (s : Script) (es : List Entry) : Type 0 where
  pub legal : IsLegal s es
  pub done : IsTrue (all_done s (After s es))
  pub given_up : HasGivenUp (After s es)
