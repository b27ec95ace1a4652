-- Serial runs computed from the definitions: so many entries of a script, with the times to which a late clock
-- moves. The rows say what they are.
use Rattle.std.specs.Prelude.{ℕ, zero, suc, ◌+◌, max, Bool, true, false, ◌||◌, List, [], ◌∷◌, ◌++◌, length, drop, flat_map, Option, Some, None, if◌then◌else◌}
use Rattle.cf_ids.specs.declared.answer.Answer.{Answer}
use Rattle.cf_ids.specs.declared.answer.Answer.TheVariants as answers
use Rattle.cf_syntax.specs.declared.script.Script.{Script}
use Rattle.cf_next.specs.declared.action.Action.{Action}
use Rattle.cf_next.specs.declared.action.Action.TheVariants as actions
use Rattle.cf_model.specs.declared.entry.Entry.{Entry}
use Rattle.cf_graph.specs.Edges.{weigh, owning, holding}
use Rattle.cf_model.specs.State.{State, start, is_live, objects_of}
use Rattle.cf_model.specs.Steps.{demanded, answer_if}
use Rattle.cf_model.specs.Journals.{Next, after_action, lead, LeadNext, over, busy, ticks, stalls, lead_next_in, is_stall}
use Rattle.cf_model.specs.Serial.{picked}

-- where a run stands: its pointer, its state, its entries, and the times that the clock has still to give
pub record Running : Type 0 where
  pub pointer : ℕ
  pub state : State
  pub entries : List Entry
  pub stalled : Bool
  pub times : List ℕ

-- one entry more
abbrev pub entered : Script → Running → ℕ → Action → Answer → Running
entered s r t a answer = record r {
  state = after_action s t r.state a;
  entries = r.entries ++ record { thread = t; action = a; answer = answer } ∷ [];
  stalled = is_stall a;
}

-- a clock gives the greater of the date and its next time
abbrev pub time_given : ℕ → List ℕ → ℕ
time_given date [] = date
time_given date (time ∷ times) = max date time

-- the lead's entry, if it makes one
abbrev pub lead_moves : Script → Running → LeadNext → Running
lead_moves s r over = r
lead_moves s r busy = r
lead_moves s r (ticks date) =
    let next = entered s r lead (actions.Tick (time_given date r.times)) answers.Ok in
    record next { times = drop 1 r.times }
lead_moves s r stalls = entered s r lead actions.Stall answers.Ok

-- a thread's entry, if it makes one: the pointer goes to the number after it
abbrev pub thread_moves : Script → Running → ℕ → Option Action → Running
thread_moves s r t None = r
thread_moves s r t (Some a) =
    record (entered s r t a (answer_if s t r.state (demanded s r.state t))) { pointer = t + 1 }

-- the next entry: of the thread that the pointer picks, or of the lead
abbrev pub moved_on : Script → Running → Option ℕ → Running
moved_on s r None = lead_moves s r (lead_next_in s r.state r.stalled)
moved_on s r (Some t) = thread_moves s r t (Next s r.state t)

-- so many entries more, if as many can be made
abbrev pub run_on : Script → ℕ → Running → Running
run_on s zero r = r
run_on s (suc n) r = run_on s n (moved_on s r (picked s r.state r.pointer))

-- the serial run of so many entries at most
abbrev pub serial_run : Script → List ℕ → ℕ → Running
serial_run s times n =
    run_on s n (record { pointer = 0; state = start s; entries = []; stalled = false; times = times })

-- ---- what is said of a run

-- an entry that a reader of the output sees, without its place in the journal
pub record Seen : Type 0 where
  pub thread : ℕ
  pub action : Action
  pub answer : Answer

-- an answer says that an object is finalised
abbrev pub is_final : Answer → Bool
is_final (answers.Final c) = true
is_final _ = false

-- an object is shown
abbrev pub is_shown : Answer → Bool
is_shown (answers.Shown description) = true
is_shown _ = false

-- a run of a loop ends at once, since its mode is empty
abbrev pub is_number : Answer → Bool
is_number (answers.Number n) = true
is_number _ = false

-- an entry is seen: a call, a run that ends, what is shown, and what is finalised
abbrev pub is_seen : Action → Answer → Bool
is_seen (actions.Call h i info) answer = true
is_seen (actions.Ran m) answer = true
is_seen (actions.Run b n used) answer = is_number answer
is_seen a answer = is_final answer || is_shown answer

-- an entry as it is seen, if it is
abbrev pub seen_if : Bool → Entry → List Seen
seen_if true e = record { thread = e.thread; action = e.action; answer = e.answer } ∷ []
seen_if false e = []

-- what is seen of entries
abbrev pub seen_in : List Entry → List Seen
seen_in [] = []
seen_in (e ∷ es) = seen_if (is_seen e.action e.answer) e ++ seen_in es

-- an object that is left: by how many references it is owned, and by how many it is held
pub record Left : Type 0 where
  pub object : ℕ
  pub owners : ℕ
  pub slots : ℕ

-- an object as it is left, if it is live
abbrev pub left_if : State → ℕ → List Left
left_if st o =
    if is_live st.parts o
    then record { object = o; owners = weigh (owning o) st.edges; slots = weigh (holding o) st.edges } ∷ []
    else []

-- what a state leaves, by number
abbrev pub left_in : State → List Left
left_in st = flat_map (left_if st) (objects_of st.parts)

-- a run as a whole: what is seen, what is left, how many entries it has, how many objects it made and finalised, and
-- whether it is over
pub record Summary : Type 0 where
  pub seen : List Seen
  pub left : List Left
  pub events : ℕ
  pub objects : ℕ
  pub finals : ℕ
  pub is_over : Bool

-- the lead finds a run over
abbrev pub ends_now : LeadNext → Bool
ends_now over = true
ends_now _ = false

-- a run as a whole
abbrev pub summary_of : Script → Running → Summary
summary_of s r = record {
  seen = seen_in r.entries;
  left = left_in r.state;
  events = length r.entries;
  objects = length r.state.parts.objects;
  finals = length r.state.parts.finalised;
  is_over = ends_now (lead_next_in s r.state r.stalled);
}
