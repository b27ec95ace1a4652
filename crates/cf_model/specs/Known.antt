-- The facts of a state: what it tells the frames of its threads. This project's own.
use Rattle.std.specs.Prelude.{ℕ, Bool, true, ◌&&◌, Option, Some, None, slice_get, slice_index_or, nat_lt, ◌==◌, if◌then◌else◌}
use Rattle.rl_base.specs.declared.registrations.Registration.{Registration}
use Rattle.cf_graph.specs.Holders.{parcel, in_mode}
use Rattle.cf_graph.specs.Edges.{has}
use Rattle.cf_contents.specs.Contents.{slots_at}
use Rattle.cf_next.specs.Facts.{Callout, Facts}
use Rattle.cf_model.specs.State.{Parts, State, times, is_live, first_held}
use Rattle.cf_model.specs.Things.{thing_at, is_valid_thing, is_signalled_thing, date_of_thing, repeats_thing, callout_of_thing, is_empty_mode}

-- the filter object of a registration is live, if it has one
abbrev pub is_live_filter : Parts → Option ℕ → Bool
is_live_filter p None = true
is_live_filter p (Some o) = is_live p o

-- a registration still receives: its observer and its filter object are live
abbrev pub may_receive : Parts → Registration → Bool
may_receive p r = is_live p r.observer && is_live_filter p r.filter

-- the callout of a registration: its info is the observer
abbrev pub receiver_in : Parts → Option Registration → Option Callout
receiver_in p None = None
receiver_in p (Some r) =
    if may_receive p r then Some (record { handler = r.handler; info = Some r.observer }) else None

-- what a finalised body gives up next, if that is the slot at this place of those that it had
abbrev pub slot_left : Parts → ℕ → ℕ → Option ℕ
slot_left p b k =
    if nat_lt 0 (times b p.finalised) && (k == times b p.dropped)
    then slice_get (slots_at (slice_get p.objects b)) k
    else None

-- the facts of a state
abbrev pub facts_of : State → Facts
facts_of st = record {
  time = st.parts.time;
  holds = λ t m i. has (in_mode t m) i st.edges;
  is_empty = λ t m. is_empty_mode st t m;
  is_valid = λ i. is_valid_thing (thing_at st.parts i);
  is_signalled = λ i. is_signalled_thing (thing_at st.parts i);
  next_date = λ i. date_of_thing (thing_at st.parts i);
  repeats = λ i. repeats_thing (thing_at st.parts i);
  callout = λ i. callout_of_thing (thing_at st.parts i);
  receiver = λ r. receiver_in st.parts (slice_index_or st.parts.registrations r None);
  parcel = λ t k. first_held (parcel t k) st.edges;
  slot = λ b k. slot_left st.parts b k;
}
