-- What each demand of a thread does, as data: an answer, a flow of references, the parts after it, a list of what it
-- collects or gives out, and the thread whose run it stops. After the ownership rule: a new object has one
-- reference, a retain adds one, a release takes one, and the last release finalises the object, which then gives up
-- its slots one by one. Callouts, returns and sleeps are after the Run Loops guide.
use Rattle.std.specs.Prelude.{ℕ, pos, true, false, List, [], ◌∷◌, ◌++◌, length, map, Option, Some, None, slice_get, ◌||◌, ◌==◌, if◌then◌else◌}
use Rattle.cf_ids.specs.declared.answer.Answer.{Answer}
use Rattle.cf_ids.specs.declared.answer.Answer.TheVariants as answers
use Rattle.rl_base.specs.Dates.{has_come, earlier, date_after}
use Rattle.rl_turn.specs.declared.phases.Phase.{Phase}
use Rattle.rl_turn.specs.declared.phases.Phase.TheVariants as phases
use Rattle.cf_syntax.specs.declared.script.Script.{Script}
use Rattle.cf_syntax.specs.declared.statement.Statement.{Statement}
use Rattle.cf_syntax.specs.declared.statement.Statement.TheVariants as forms
use Rattle.cf_syntax.specs.declared.mention.Ownership.{Ownership}
use Rattle.cf_syntax.specs.declared.mention.Ownership.TheVariants.{Keeps, Binds, Retains, Releases}
use Rattle.cf_syntax.specs.Mentions.{ownership_of, first_of}
use Rattle.cf_syntax.specs.BlockLines.{BlockLine, begins, claims, says, packs}
use Rattle.cf_graph.specs.Holders.{Holder, variable, callout, owed, parcel, slot}
use Rattle.cf_graph.specs.Edges.{Reference, held_by, held_if, degree}
use Rattle.cf_graph.specs.Flows.{Flow, grows, shrinks, still, flowed, cut_of}
use Rattle.cf_contents.specs.Items.{Item, source_item, timer_item, observer_item, class_of}
use Rattle.cf_contents.specs.Contents.{Object, item_content, slots_in}
use Rattle.cf_contents.specs.Deeds.{Origin, nowhere, fresh, there, deed_at}
use Rattle.cf_next.specs.Facts.{Callout}
use Rattle.cf_next.specs.Stands.{Binding, Role, as_observer, Callee, item_of, Turn, Kind, of_run, Frame, Stand, stop_stand}
use Rattle.cf_next.specs.Turns.{test_result}
use Rattle.cf_next.specs.Demands.{Demand, does, ends, returns, owes, spends, drops, calls, enters, closes, demand}
use Rattle.cf_next.specs.Advance.{kind_item, top_info, top_kind, advanced}
use Rattle.cf_next.specs.Next.{object_at, used_objects}
use Rattle.cf_model.specs.State.{Sleeping, awake, until, Flags, Parts, State, stand_at, with_stand, flags_at, with_flags, is_live, first_held}
use Rattle.cf_model.specs.Things.{Thing, thing_at, collected_of, items_in, mode_date}
use Rattle.cf_model.specs.Known.{facts_of}
use Rattle.cf_model.specs.Own.{own_reference, own_references, moves_to}
use Rattle.cf_model.specs.Deals.{Deal, okay, with_item, invalidate_deal, deal_of, posts_of}

-- a step: its answer, its flow, the parts after it, what it collects or gives out, and the thread whose run it stops
pub record Step : Type 0 where
  pub answer : Answer
  pub flow : Flow
  pub parts : Parts
  pub list : List ℕ
  pub stops : Option ℕ

-- a step that changes nothing but where its thread stands
abbrev pub idle : State → Answer → Step
idle st answer = record { answer = answer; flow = still; parts = st.parts; list = []; stops = None }

-- a step that changes references alone
abbrev pub flowing : State → Answer → Flow → Step
flowing st answer flow = record (idle st answer) { flow = flow }

-- ---- the state after a step

-- a reference that is taken away and leaves none to its object finalises it
abbrev pub finals_of : Option ℕ → List Reference → List ℕ
finals_of None es = []
finals_of (Some o) es = if degree o es == 0 then o ∷ [] else []

-- the type of an object, or 0 if there is none
abbrev pub type_in : Option Object → ℕ
type_in None = 0
type_in (Some ob) = ob.class

-- if a reference is taken away, the answer is whether it was the last
abbrev pub cut_answer : Option ℕ → List Object → List Reference → Answer → Answer
cut_answer None objects es other = other
cut_answer (Some o) objects es other =
    if degree o es == 0 then answers.Final (type_in (slice_get objects o)) else answers.More

-- the references that a step leaves
abbrev pub edges_after : Step → State → List Reference
edges_after step st = flowed step.flow st.edges

-- the object that a step finalises, if it does
abbrev pub step_finals : Step → State → List ℕ
step_finals step st = finals_of (cut_of step.flow) (edges_after step st)

-- the answer of a step
abbrev pub step_answer : Step → State → Answer
step_answer step st = cut_answer (cut_of step.flow) st.parts.objects (edges_after step st) step.answer

-- where threads stand after the run of one is told to stop
abbrev pub stopped_at : Option ℕ → List Stand → List Stand
stopped_at None ss = ss
stopped_at (Some u) ss = with_stand u (stop_stand (stand_at u ss)) ss

-- where the thread of a step stands after it
abbrev pub stand_after : ℕ → Demand → Step → State → Stand
stand_after t d step st =
    advanced (facts_of st) t d (step_answer step st) (step_finals step st) step.list (stand_at t st.stands)

-- the state that a step leaves
abbrev pub state_after : ℕ → Demand → Step → State → State
state_after t d step st = record {
  parts = record step.parts { finalised = step_finals step st ++ step.parts.finalised };
  edges = edges_after step st;
  stands = stopped_at step.stops (with_stand t (stand_after t d step st) st.stands);
}

-- ---- a statement that binds a variable

-- an item that a statement makes, with its handler
pub record Made : Type 0 where
  pub handler : ℕ
  pub item : Item

-- the item that a statement makes, if it makes one: a source that is not signalled, a timer with its first date, an
-- observer
abbrev pub item_made : Statement → Option Made
item_made (forms.MakeSource v order handler info) = Some (record { handler = handler; item = source_item order false })
item_made (forms.MakeTimer v first interval handler info) =
    Some (record { handler = handler; item = timer_item first interval (Some first) })
item_made (forms.MakeObserver v mask repeats order handler info) =
    Some (record { handler = handler; item = observer_item mask repeats order })
item_made _ = None

-- what a statement answers if it finds nothing to bind, and where the object comes from
pub record Bound : Type 0 where
  pub answer : Answer
  pub origin : Origin

-- an item is made, with the object of its info
abbrev pub item_bound : Option ℕ → Made → Bound
item_bound info m = record {
  answer = answers.Skip;
  origin = fresh (record { class = class_of m.item; content = item_content m.handler info true m.item });
}

-- an item is made if the statement makes one, and what else a statement binds its deed says
abbrev pub bound_if : Script → Parts → Statement → List (Option ℕ) → Option Made → Bound
bound_if s p x used (Some m) = item_bound (first_of used) m
bound_if s p x used None =
    let deed = deed_at s.classes p.objects x used in
    record { answer = deed.answer; origin = deed.origin }

-- what a statement binds, by the objects that it uses
abbrev pub bound_of : Script → Parts → Statement → List (Option ℕ) → Bound
bound_of s p x used = bound_if s p x used (item_made x)

-- the object that is found: the next one, or one that is there, if it is live
abbrev pub found : Parts → Origin → Option ℕ
found p nowhere = None
found p (fresh ob) = Some (length p.objects)
found p (there o) = if is_live p o then Some o else None

-- the object that is made, if one is
abbrev pub made_from : Origin → List Object
made_from (fresh ob) = ob ∷ []
made_from _ = []

-- what a new object holds from the start
abbrev pub new_slots : ℕ → Origin → List Reference
new_slots n (fresh ob) = map (held_by (slot n)) (slots_in ob.content)
new_slots n _ = []

-- a statement that binds an object answers it
abbrev pub object_answer : Option ℕ → Answer → Answer
object_answer None other = other
object_answer (Some o) other = answers.Object o

-- a variable gets a reference to what is bound, and a new object has its slots
abbrev pub bind_step : Holder → Parts → Bound → Step
bind_step h p b = record {
  answer = object_answer (found p b.origin) b.answer;
  flow = grows (held_if h (found p b.origin) ++ new_slots (length p.objects) b.origin) [];
  parts = record p { objects = p.objects ++ made_from b.origin };
  list = [];
  stops = None;
}

-- ---- a statement that retains or releases a variable's object

-- the object of a variable gets a reference more
abbrev pub retain_step : Holder → State → Option ℕ → Step
retain_step h st None = idle st answers.Skip
retain_step h st (Some o) = flowing st answers.Ok (grows (held_by h o ∷ []) [])

-- a reference is taken away, if there is one
abbrev pub cut_flow : Option Reference → Flow
cut_flow None = still
cut_flow (Some r) = shrinks r

-- one of the thread's references to an object is taken away; nothing is if it has none
abbrev pub cut_step : ℕ → Holder → State → ℕ → Step
cut_step t h st o = flowing st answers.Ok (cut_flow (own_reference t h o st.edges))

-- the object of a variable loses a reference of the thread
abbrev pub release_step : ℕ → Holder → State → Option ℕ → Step
release_step t h st None = idle st answers.Skip
release_step t h st (Some o) = cut_step t h st o

-- ---- the step of a line

-- the step of a deal: what leaves a body or a loop goes to the thread, which owes its release
abbrev pub deal_step : ℕ → Deal → List ℕ → Step
deal_step t deal posts = record {
  answer = deal.answer;
  flow = grows deal.enters (moves_to (owed t) deal.leaves);
  parts = deal.parts;
  list = map (λ r. r.object) deal.leaves ++ posts;
  stops = deal.stops;
}

-- the step of a statement, by its deed
abbrev pub statement_step : Script → (t depth : ℕ) → State → Statement → List (Option ℕ) → Ownership → Step
statement_step s t d st x used Keeps = deal_step t (deal_of s t st x used) (posts_of st.parts x used)
statement_step s t d st x used (Binds v) = bind_step (variable t d v) st.parts (bound_of s st.parts x used)
statement_step s t d st x used (Retains v) = retain_step (variable t d v) st (first_of used)
statement_step s t d st x used (Releases v) = release_step t (variable t d v) st (first_of used)

-- a reference goes from a place of the thread's parcel to a variable
abbrev pub claim_step : State → Holder → Option ℕ → Holder → Step
claim_step st h None k = idle st answers.Skip
claim_step st h (Some o) k = flowing st answers.Ok (grows [] (moves_to k (held_by h o ∷ [])))

-- a reference of the thread goes to a place of another's parcel
abbrev pub pack_step : ℕ → State → Holder → Option ℕ → Holder → Step
pack_step t st h None k = idle st answers.Skip
pack_step t st h (Some o) k =
    flowing st answers.Ok (grows [] (moves_to k (own_references t (held_by h o ∷ []) st.edges)))

-- the variable that is packed; there is none if setup has no variable of that name
abbrev pub packed_holder : (t depth : ℕ) → Option ℕ → Holder
packed_holder t d None = owed t
packed_holder t d (Some v) = variable t d v

-- the step of a line
abbrev pub line_step : Script → (t depth : ℕ) → State → List Binding → BlockLine → Step
line_step s t d st bs (begins v) = idle st answers.Ok
line_step s t d st bs (claims k v) = claim_step st (parcel t k) (first_held (parcel t k) st.edges) (variable t d v)
line_step s t d st bs (packs u k v) = pack_step t st (packed_holder t d v) (object_at bs v) (parcel u k)
line_step s t d st bs (says x) = statement_step s t d st x (used_objects bs (says x)) (ownership_of x)

-- ---- steps that no line writes

-- the end of setup starts all threads
abbrev pub start_all : List Flags → List Flags
start_all fs = map (λ (f : Flags). record f { is_started = true }) fs

-- the end of a block: that of setup starts all threads
abbrev pub end_step : ℕ → State → Step
end_step t st =
    let started : Parts = record st.parts { flags = start_all st.parts.flags } in
    record (idle st answers.Ok) { parts = if t == 0 then started else st.parts }

-- the references of a callout: one to its item and one to its info
abbrev pub call_references : (t depth : ℕ) → (info item : Option ℕ) → List Reference
call_references t d info item = held_if (variable t d 0) info ++ held_if (callout t d) item

-- the end of a callout: the thread owes the releases of its item and its info
abbrev pub return_step : (t depth : ℕ) → State → (info item : Option ℕ) → Step
return_step t d st info item =
    flowing st answers.Ok (grows [] (moves_to (owed t) (own_references t (call_references t d info item) st.edges)))

-- an item that was invalidated since its handler returned is left as it is
abbrev pub spend_if : Script → State → ℕ → Option Thing → Deal
spend_if s st i None = okay st.parts
spend_if s st i (Some x) = if x.valid then invalidate_deal s st i x else okay st.parts

-- a body gives up a slot, once it is finalised
abbrev pub drop_step : State → ℕ → ℕ → Step
drop_step st b o =
    let step = flowing st answers.Ok (shrinks (held_by (slot b) o)) in
    record step { parts = record st.parts { dropped = b ∷ st.parts.dropped } }

-- a callout takes a source's signal, and gives a timer its next date
abbrev pub fired : ℕ → Item → Item
fired time (source_item order signalled) = source_item order false
fired time (timer_item first interval date) = timer_item first interval (date_after first interval time)
fired time (observer_item mask repeats order) = observer_item mask repeats order

-- a callout of what may be an item
abbrev pub fire : Parts → ℕ → Option Thing → Parts
fire p i None = p
fire p i (Some x) = with_item p i x.valid (fired p.time x.item)

-- a callout of an item, if there is one
abbrev pub fire_if : Parts → Option ℕ → Parts
fire_if p None = p
fire_if p (Some i) = fire p i (thing_at p i)

-- the activity of a phase, which a note has
abbrev pub activity_of : Option Phase → ℕ
activity_of (Some (phases.Note a)) = a
activity_of _ = 0

-- the activity of which an observer is told: that of the last note of its run
abbrev pub activity : Kind → ℕ
activity (of_run r) = activity_of r.last
activity _ = 0

-- a call of an observer answers the activity, any other `ok`
abbrev pub call_answer : Role → ℕ → Answer
call_answer as_observer a = answers.Number (pos a)
call_answer _ a = answers.Ok

-- a callout: it has references to its item and its info, and takes a signal or a date
abbrev pub call_step : (t depth : ℕ) → State → Kind → Callee → Callout → Step
call_step t d st kind k c =
    let step = flowing st (call_answer k.role (activity kind)) (grows (call_references t d c.info (item_of k)) []) in
    record step { parts = fire_if st.parts (item_of k) }

-- ---- phases of a run

-- a thread sleeps or is awake, and its wake flag is taken
abbrev pub with_sleep : Parts → ℕ → Sleeping → Parts
with_sleep p t sleep =
    let after : Flags = record (flags_at t p.flags) { sleep = sleep; is_woken = false } in
    record p { flags = with_flags t after p.flags }

-- a step after which a thread sleeps or is awake
abbrev pub sleeping : State → ℕ → Answer → Sleeping → Step
sleeping st t answer sleep = record (idle st answer) { parts = with_sleep st.parts t sleep }

-- a loop that was not woken sleeps, unless the deadline is past or a timer's date has come
abbrev pub unwoken_step : State → ℕ → Turn → Step
unwoken_step st t r =
    let date = mode_date st t r.mode in
    if has_come r.deadline st.parts.time || has_come date st.parts.time then idle st answers.Due
    else sleeping st t (answers.Asleep (earlier r.deadline date)) (until (earlier r.deadline date))

-- a loop that was woken does not sleep
abbrev pub sleep_step : State → ℕ → Turn → Step
sleep_step st t r =
    if (flags_at t st.parts.flags).is_woken then sleeping st t answers.Woken awake else unwoken_step st t r

-- the answer of a test: its result, or `again` if there is none
abbrev pub result_answer : Option ℕ → Answer
result_answer None = answers.Again
result_answer (Some n) = answers.Number (pos n)

-- a phase collects items of its mode
abbrev pub collect_step : State → ℕ → Turn → Phase → Step
collect_step st t r p = record (idle st answers.Ok) { list = collected_of st.parts p (items_in st t r.mode) }

-- the step of a phase of a run
abbrev pub turn_step : State → ℕ → Turn → Phase → Step
turn_step st t r phases.Sleep = sleep_step st t r
turn_step st t r phases.Test = idle st (result_answer (test_result (facts_of st) t r))
turn_step st t r p = collect_step st t r p

-- the step of a phase; only a run has phases
abbrev pub phase_step : State → ℕ → Phase → Kind → Step
phase_step st t p (of_run r) = turn_step st t r p
phase_step st t p _ = idle st answers.Ok

-- the end of a run answers the result of its last test
abbrev pub close_step : State → Kind → Step
close_step st (of_run r) = idle st (result_answer r.result)
close_step st _ = idle st answers.Ok

-- ---- the step of a demand

-- what the variables of the innermost frame are bound to
abbrev pub bindings_of : List Frame → List Binding
bindings_of [] = []
bindings_of (f ∷ fs) = f.bindings

-- the depth of the innermost frame: how many are below it
abbrev pub depth_of : List Frame → ℕ
depth_of [] = 0
depth_of (f ∷ fs) = length fs

-- the step of a demand
abbrev pub step_of : Script → ℕ → State → List Frame → Demand → Step
step_of s t st fs (does x) = line_step s t (depth_of fs) st (bindings_of fs) x
step_of s t st fs ends = end_step t st
step_of s t st fs returns = return_step t (depth_of fs) st (top_info fs) (kind_item (top_kind fs))
step_of s t st fs (owes o) = cut_step t (owed t) st o
step_of s t st fs (spends i) = deal_step t (spend_if s st i (thing_at st.parts i)) []
step_of s t st fs (drops b k o) = drop_step st b o
step_of s t st fs (calls k c) = call_step t (length fs) st (top_kind fs) k c
step_of s t st fs (enters p) = phase_step st t p (top_kind fs)
step_of s t st fs closes = close_step st (top_kind fs)

-- the frames of a thread
abbrev pub frames_at : ℕ → State → List Frame
frames_at t st = (stand_at t st.stands).frames

-- what a thread demands in a state
abbrev pub demanded : Script → State → ℕ → Option Demand
demanded s st t = demand s (facts_of st) t (stand_at t st.stands)

-- the state after a demand of a thread is done
abbrev pub done_by : Script → ℕ → State → Demand → State
done_by s t st d = state_after t d (step_of s t st (frames_at t st) d) st

-- the same, if the thread demands something
abbrev pub acted : Script → ℕ → State → Option Demand → State
acted s t st None = st
acted s t st (Some d) = done_by s t st d

-- the answer to a demand; `ok` if there is none
abbrev pub answer_if : Script → ℕ → State → Option Demand → Answer
answer_if s t st None = answers.Ok
answer_if s t st (Some d) = step_answer (step_of s t st (frames_at t st) d) st
