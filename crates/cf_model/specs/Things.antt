-- What a state knows of items of run loops, by the number of the object: for the definitions of sources, timers and
-- observers, which are cited here. After the Run Loops guide.
use Rattle.std.specs.Prelude.{ℕ, ℤ, pos, Bool, false, ◌&&◌, List, [], ◌∷◌, filter, flat_map, map, Option, Some, None, slice_get, if◌then◌else◌}
use Rattle.rl_base.specs.declared.sources.SourceState.{SourceState}
use Rattle.rl_base.specs.declared.observers.ObserverState.{ObserverState}
use Rattle.rl_base.specs.Dates.{has_come, least_date}
use Rattle.rl_base.specs.Modes.{keeps_open, is_empty}
use Rattle.rl_base.specs.Ranks.{sorted_by}
use Rattle.rl_base.specs.Signals.{ready_sources}
use Rattle.rl_base.specs.Activities.{matching_observers}
use Rattle.rl_turn.specs.declared.phases.Phase.{Phase}
use Rattle.rl_turn.specs.declared.phases.Phase.TheVariants as phases
use Rattle.cf_graph.specs.Holders.{in_mode}
use Rattle.cf_graph.specs.Edges.{has}
use Rattle.cf_contents.specs.Items.{Item, source_item, observer_item, kind_of, is_signalled_item, date_in, repeats_item}
use Rattle.cf_contents.specs.Contents.{Object, Content, item_content}
use Rattle.cf_next.specs.Facts.{Callout}
use Rattle.cf_model.specs.State.{Parts, State, objects_of}

-- an item with its handler, its info, and whether it is valid
pub record Thing : Type 0 where
  pub handler : ℕ
  pub info : Option ℕ
  pub valid : Bool
  pub item : Item

-- the item in a content, if it is one
abbrev pub thing_in : Content → Option Thing
thing_in (item_content h info valid item) = Some (record { handler = h; info = info; valid = valid; item = item })
thing_in _ = None

-- the item that an object is, if it is one
abbrev pub thing_of : Option Object → Option Thing
thing_of None = None
thing_of (Some ob) = thing_in ob.content

-- the item of a number, if the object is one
abbrev pub thing_at : Parts → ℕ → Option Thing
thing_at p i = thing_of (slice_get p.objects i)

-- an item is valid; what is no item is not
abbrev pub is_valid_thing : Option Thing → Bool
is_valid_thing None = false
is_valid_thing (Some x) = x.valid

-- a source is signalled; what is no source is not
abbrev pub is_signalled_thing : Option Thing → Bool
is_signalled_thing None = false
is_signalled_thing (Some x) = is_signalled_item x.item

-- the next date of a timer, if it has one
abbrev pub date_of_thing : Option Thing → Option ℕ
date_of_thing None = None
date_of_thing (Some x) = date_in x.item

-- an observer is called again and again; what is no observer is not
abbrev pub repeats_thing : Option Thing → Bool
repeats_thing None = false
repeats_thing (Some x) = repeats_item x.item

-- the handler and the info of an item
abbrev pub callout_of_thing : Option Thing → Option Callout
callout_of_thing None = None
callout_of_thing (Some x) = Some (record { handler = x.handler; info = x.info })

-- an item keeps a mode from being empty: a source or a timer
abbrev pub opens_thing : Option Thing → Bool
opens_thing None = false
opens_thing (Some x) = keeps_open (kind_of x.item)

-- ---- items of a mode

-- the items of a mode of a thread's loop, by number
abbrev pub items_in : State → (t m : ℕ) → List ℕ
items_in st t m = filter (λ i. has (in_mode t m) i st.edges) (objects_of st.parts)

-- a mode is empty if it has no source and no timer
abbrev pub is_empty_mode : State → (t m : ℕ) → Bool
is_empty_mode st t m = is_empty (λ i. opens_thing (thing_at st.parts i)) (items_in st t m)

-- ---- what a phase collects

-- an item as a source, if it is one
abbrev pub source_in : ℕ → Bool → Item → List SourceState
source_in i valid (source_item order signalled) =
    record { number = i; order = order; valid = valid; signalled = signalled } ∷ []
source_in i valid _ = []

-- an object as a source, if it is one
abbrev pub source_of : ℕ → Option Thing → List SourceState
source_of i None = []
source_of i (Some x) = source_in i x.valid x.item

-- the sources of a state, by rising number
abbrev pub sources_of : Parts → List SourceState
sources_of p = flat_map (λ i. source_of i (thing_at p i)) (objects_of p)

-- an item as an observer, if it is one
abbrev pub observer_in : ℕ → Bool → Item → List ObserverState
observer_in i valid (observer_item mask repeats order) =
    record { number = i; mask = mask; repeats = repeats; order = order; valid = valid } ∷ []
observer_in i valid _ = []

-- an object as an observer, if it is one
abbrev pub observer_of : ℕ → Option Thing → List ObserverState
observer_of i None = []
observer_of i (Some x) = observer_in i x.valid x.item

-- the observers of a state, by rising number
abbrev pub observers_of : Parts → List ObserverState
observers_of p = flat_map (λ i. observer_of i (thing_at p i)) (objects_of p)

-- a valid timer is due if its date has come
abbrev pub is_due : Parts → ℕ → Bool
is_due p i = is_valid_thing (thing_at p i) && has_come (date_of_thing (thing_at p i)) p.time

-- a date as a rank, by which timers are sorted
abbrev pub date_or : Option ℕ → ℤ
date_or None = pos 0
date_or (Some d) = pos d

-- the timers that are due, by rising date and then by number
abbrev pub due_timers : Parts → List ℕ → List ℕ
due_timers p items = sorted_by (λ i. date_or (date_of_thing (thing_at p i))) (filter (is_due p) items)

-- what a phase collects of the items of its mode
abbrev pub collected_of : Parts → Phase → List ℕ → List ℕ
collected_of p (phases.Note a) items = matching_observers a (observers_of p) items
collected_of p phases.Sources items = ready_sources (sources_of p) items
collected_of p phases.Timers items = due_timers p items
collected_of p _ items = []

-- the date of a valid timer, if it has one
abbrev pub valid_date : Option Thing → Option ℕ
valid_date None = None
valid_date (Some x) = if x.valid then date_in x.item else None

-- the least date of the valid timers of a mode
abbrev pub mode_date : State → (t m : ℕ) → Option ℕ
mode_date st t m = least_date (map (λ i. valid_date (thing_at st.parts i)) (items_in st t m))
