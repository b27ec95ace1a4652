-- What a statement does that neither binds nor counts a variable's references: a deal is its answer, the parts after
-- it, the references that enter the bodies and loops that it names and those that leave them for the thread, and the
-- thread whose run it stops. After the Run Loops guide and the reference of CFNotificationCenter.
use Rattle.std.specs.Prelude.{ℕ, ℤ, pos, Bool, true, false, ◌&&◌, not, List, [], ◌∷◌, ◌++◌, length, map, filter, flat_map, Option, Some, None, slice_get, slice_index_or, ◌==◌, if◌then◌else◌}
use Rattle.std.specs.List.{list_any}
use Rattle.cf_ids.specs.declared.answer.Answer.{Answer}
use Rattle.cf_ids.specs.declared.answer.Answer.TheVariants as answers
use Rattle.cf_ids.specs.declared.numbers.ItemKind.{ItemKind}
use Rattle.cf_ids.specs.declared.numbers.ItemKind.TheVariants.{Source, Timer, Observer}
use Rattle.rl_base.specs.declared.places.Place.{Place}
use Rattle.rl_base.specs.declared.registrations.Registration.{Registration}
use Rattle.rl_base.specs.declared.places.Place.TheVariants as places
use Rattle.rl_base.specs.Modes.{places_of, places_entered, items_gained}
use Rattle.rl_base.specs.Receivers.{forgets, is_there_and, numbers_of, receivers}
use Rattle.cf_syntax.specs.declared.script.Script.{Script}
use Rattle.cf_syntax.specs.declared.mention.ThreadWord.{ThreadWord}
use Rattle.cf_syntax.specs.declared.mention.ThreadWord.TheVariants.{Own, Named}
use Rattle.cf_syntax.specs.declared.mention.ModeWord.{ModeWord}
use Rattle.cf_syntax.specs.declared.mention.ModeWord.TheVariants as words
use Rattle.cf_syntax.specs.declared.statement.Statement.{Statement}
use Rattle.cf_syntax.specs.declared.statement.Statement.TheVariants as forms
use Rattle.cf_syntax.specs.Mentions.{used_at, first_of}
use Rattle.cf_graph.specs.Holders.{Holder, slot, in_mode, in_common}
use Rattle.cf_graph.specs.Edges.{Reference, held_by, has}
use Rattle.cf_contents.specs.Items.{Item, source_item, kind_of}
use Rattle.cf_contents.specs.Deeds.{Change, unchanged, in_item, deed_at, objects_after, taken_in, given_out}
use Rattle.cf_next.specs.Stands.{has_run}
use Rattle.cf_model.specs.State.{Sleeping, awake, until, Flags, Parts, State, stand_at, flags_at, with_flags, threads_of, modes_of, objects_of, is_common}
use Rattle.cf_model.specs.Things.{Thing, thing_at, is_empty_mode}
use Rattle.cf_model.specs.Known.{may_receive}
use Rattle.cf_model.specs.Own.{present_of}

-- what a statement does that neither binds a variable nor counts its references: its answer, the parts after it, what
-- enters the bodies and loops that it names, what leaves them for the thread, and the thread whose run it stops
pub record Deal : Type 0 where
  pub answer : Answer
  pub parts : Parts
  pub enters : List Reference
  pub leaves : List Reference
  pub stops : Option ℕ

-- the deal that answers, and changes no more than these parts
abbrev pub answering : Parts → Answer → Deal
answering p a = record { answer = a; parts = p; enters = []; leaves = []; stops = None }

-- the deal that answers `ok`
abbrev pub okay : Parts → Deal
okay p = answering p answers.Ok

-- the deal of a statement that finds nothing to act on
abbrev pub skipping : Parts → Deal
skipping p = answering p answers.Skip

-- a deal by the object of a variable; without one the statement is skipped
abbrev pub with_used : Parts → Option ℕ → (ℕ → Deal) → Deal
with_used p None deal = skipping p
with_used p (Some o) deal = deal o

-- a deal by what may be an item; if it is none the statement is skipped
abbrev pub thing_deal : Parts → ℕ → (ℕ → Thing → Deal) → Option Thing → Deal
thing_deal p i deal None = skipping p
thing_deal p i deal (Some x) = deal i x

-- a deal by the item of a variable; without one the statement is skipped
abbrev pub with_thing : Parts → Option ℕ → (ℕ → Thing → Deal) → Deal
with_thing p None deal = skipping p
with_thing p (Some i) deal = thing_deal p i deal (thing_at p i)

-- ---- bodies

-- a statement that is skipped changes nothing
abbrev pub change_unless_skipped : Answer → Change → Change
change_unless_skipped answers.Skip change = unchanged
change_unless_skipped answer change = change

-- a change of a body: it takes in what comes, and gives out what goes
abbrev pub change_deal : Parts → Answer → Option ℕ → Change → Deal
change_deal p answer None change = answering p answer
change_deal p answer (Some b) change = record {
  answer = answer;
  parts = record p { objects = objects_after (Some b) change p.objects };
  enters = map (held_by (slot b)) (taken_in (slice_get p.objects b) change);
  leaves = map (held_by (slot b)) (given_out (slice_get p.objects b) change);
  stops = None;
}

-- the parts with an item that is valid or not, and is as this one
abbrev pub with_item : Parts → ℕ → Bool → Item → Parts
with_item p i valid item = record p { objects = objects_after (Some i) (in_item valid item) p.objects }

-- ---- the places of run loops

-- the thread that a word names: none if the script has none of that name
abbrev pub thread_in : ℕ → ThreadWord → Option ℕ
thread_in t Own = Some t
thread_in t (Named u) = u

-- the place of a loop that a word names
abbrev pub place_in : ModeWord → Place
place_in words.Common = places.Common
place_in (words.Mode m) = places.Mode m

-- a place of a thread's loop as a holder
abbrev pub holder_at : ℕ → Place → Holder
holder_at u places.Common = in_common u
holder_at u (places.Mode m) = in_mode u m

-- a place of a thread's loop holds an item
abbrev pub holds_at : ℕ → ℕ → List Reference → Place → Bool
holds_at u i es p = has (holder_at u p) i es

-- the references of places of a thread's loop to an item
abbrev pub held_at : ℕ → ℕ → List Place → List Reference
held_at u i ps = map (λ p. held_by (holder_at u p) i) ps

-- the common modes of a thread's loop, by number
abbrev pub common_modes : Script → ℕ → Parts → List ℕ
common_modes s u p = filter (is_common u p.commons) (modes_of s)

-- the places of a loop that hold an item, of all its modes
abbrev pub loop_places : Script → ℕ → ℕ → List Reference → List Place
loop_places s u i es = places_of (holds_at u i es) (modes_of s)

-- a timer or an observer is in the loop of one thread alone
abbrev pub stays_in_one : ItemKind → Bool
stays_in_one Source = false
stays_in_one Timer = true
stays_in_one Observer = true

-- the loop of another thread holds the item
abbrev pub is_elsewhere : Script → ℕ → ℕ → List Reference → Bool
is_elsewhere s u i es = list_any (λ w. not (w == u) && not (length (loop_places s w i es) == 0)) (threads_of s)

-- what is added to a place: that place, or for the common items also each common mode that does not hold the item yet
abbrev pub places_added : Script → ℕ → ℕ → State → Place → List Place
places_added s u i st places.Common = places_entered (holds_at u i st.edges) (common_modes s u st.parts)
places_added s u i st (places.Mode m) = places.Mode m ∷ []

-- what is dropped from a place: that place, or for the common items also each common mode that holds the item
abbrev pub places_dropped : Script → ℕ → ℕ → State → Place → List Place
places_dropped s u i st places.Common = places_of (holds_at u i st.edges) (common_modes s u st.parts)
places_dropped s u i st (places.Mode m) = places.Mode m ∷ []

-- the deal by which references enter
abbrev pub entering : Parts → List Reference → Deal
entering p rs = record (okay p) { enters = rs }

-- the deal by which references leave
abbrev pub leaving : Parts → List Reference → Deal
leaving p rs = record (okay p) { leaves = rs }

-- an item is added to a place, if it is valid, in no other loop that it may not share, and not there yet
abbrev pub add_deal : Script → State → ℕ → Place → ℕ → Thing → Deal
add_deal s st u p i x =
    if not x.valid then answering st.parts answers.Invalid
    else (if stays_in_one (kind_of x.item) && is_elsewhere s u i st.edges then answering st.parts answers.Elsewhere
    else (if holds_at u i st.edges p then answering st.parts answers.Present
    else entering st.parts (held_at u i (places_added s u i st p))))

-- an item is dropped from a place, if it is there
abbrev pub drop_deal : Script → State → ℕ → Place → ℕ → Deal
drop_deal s st u p i =
    if holds_at u i st.edges p
    then leaving st.parts (present_of (held_at u i (places_dropped s u i st p)) st.edges)
    else answering st.parts answers.Absent

-- the common items of a thread's loop, by number
abbrev pub common_items : State → ℕ → List ℕ
common_items st u = filter (λ i. has (in_common u) i st.edges) (objects_of st.parts)

-- a mode becomes a common one, and gets the common items that it does not hold yet
abbrev pub common_deal : State → ℕ → ℕ → Deal
common_deal st u m =
    if is_common u st.parts.commons m then answering st.parts answers.Present
    else record (okay st.parts) {
      parts = record st.parts { commons = record { thread = u; mode = m } ∷ st.parts.commons };
      enters = map (held_by (in_mode u m)) (items_gained (λ i. has (in_mode u m) i st.edges) (common_items st u));
    }

-- ---- items

-- a source is signalled, if it is valid
abbrev pub signal_source : Parts → ℕ → Bool → ℤ → Deal
signal_source p i true order = okay (with_item p i true (source_item order true))
signal_source p i false order = answering p answers.Invalid

-- the same of any item; what is no source is skipped
abbrev pub signal_deal : Parts → ℕ → Bool → Item → Deal
signal_deal p i valid (source_item order signalled) = signal_source p i valid order
signal_deal p i valid _ = skipping p

-- all places that hold an item: loops by thread, in each the common items first and then the modes by number
abbrev pub every_place : Script → ℕ → List Reference → List Reference
every_place s i es = flat_map (λ u. held_at u i (loop_places s u i es)) (threads_of s)

-- an item that is valid is so no more, and leaves every place
abbrev pub invalidate_deal : Script → State → ℕ → Thing → Deal
invalidate_deal s st i x =
    if x.valid then leaving (with_item st.parts i false x.item) (present_of (every_place s i st.edges) st.edges)
    else answering st.parts answers.Invalid

-- ---- threads

-- a wake ends a sleep, or is kept for the next one
abbrev pub woken_by : Flags → Sleeping → Flags
woken_by f awake = record f { is_woken = true }
woken_by f (until d) = record f { sleep = awake }

-- the flags of a thread after a wake
abbrev pub wake_flags : Flags → Flags
wake_flags f = woken_by f f.sleep

-- the parts after a wake of a thread
abbrev pub wake_parts : Parts → ℕ → Parts
wake_parts p u = record p { flags = with_flags u (wake_flags (flags_at u p.flags)) p.flags }

-- the innermost run of a thread is told to stop, and its loop is woken; a thread without one is idle
abbrev pub stop_deal : State → ℕ → Deal
stop_deal st u =
    if has_run (stand_at u st.stands).frames then record (okay (wake_parts st.parts u)) { stops = Some u }
    else answering st.parts answers.Idle

-- a run of a mode begins, if the mode is not empty; else it ends at once
abbrev pub run_deal : State → (t m : ℕ) → Deal
run_deal st t m = answering st.parts (if is_empty_mode st t m then answers.Number (pos 1) else answers.Entered)

-- ---- notices

-- a registration is added, after those that are there
abbrev pub observe_deal : Parts → ℕ → Option ℕ → ℕ → Option ℕ → Deal
observe_deal p h name o filter_object =
    let made : Registration = record { observer = o; handler = h; name = name; filter = filter_object } in
    okay (record p { registrations = p.registrations ++ Some made ∷ [] })

-- a registration that is forgotten leaves its number empty
abbrev pub forget_deal : Parts → Option ℕ → ℕ → Option ℕ → Deal
forget_deal p name o filter_object =
    let gone = forgets o name filter_object in
    answering
    (record p { registrations = map (λ r. if is_there_and gone r then None else r) p.registrations })
    (answers.Number (pos (length (numbers_of gone p.registrations))))

-- the receivers of a notice: those that match, with a live observer and a live filter object
abbrev pub live_receivers : Parts → ℕ → Option ℕ → List ℕ
live_receivers p name object =
    let there = p.registrations in
    filter (λ k. is_there_and (may_receive p) (slice_index_or there k None)) (receivers name object there)

-- a filter that a statement names, by the object of its variable, which may be empty
abbrev pub with_filter : Parts → Option ℕ → Option ℕ → (Option ℕ → Deal) → Deal
with_filter p None object deal = deal None
with_filter p (Some v) object deal = with_used p object (λ o. deal (Some o))

-- ---- the deal of a statement, by the objects that it uses

-- the deal of a statement, by the objects that it uses
abbrev pub deal_of : Script → ℕ → State → Statement → List (Option ℕ) → Deal
deal_of s t st (forms.Add v u m) used =
    with_thing st.parts (first_of used)
    (λ i x. with_used st.parts (thread_in t u) (λ w. add_deal s st w (place_in m) i x))
deal_of s t st (forms.Drop v u m) used =
    with_thing st.parts (first_of used)
    (λ i x. with_used st.parts (thread_in t u) (λ w. drop_deal s st w (place_in m) i))
deal_of s t st (forms.Common u m) used = with_used st.parts (thread_in t u) (λ w. common_deal st w m)
deal_of s t st (forms.Signal v) used =
    with_thing st.parts (first_of used) (λ i x. signal_deal st.parts i x.valid x.item)
deal_of s t st (forms.Invalidate v) used = with_thing st.parts (first_of used) (invalidate_deal s st)
deal_of s t st (forms.Wake u) used = with_used st.parts (thread_in t u) (λ w. okay (wake_parts st.parts w))
deal_of s t st (forms.Stop u) used = with_used st.parts (thread_in t u) (stop_deal st)
deal_of s t st (forms.Run m limit once) used = run_deal st t m
deal_of s t st (forms.Observe v h name x) used =
    with_used st.parts (first_of used) (λ o. with_filter st.parts x (used_at used 1) (observe_deal st.parts h name o))
deal_of s t st (forms.Forget v name x) used =
    with_used st.parts (first_of used) (λ o. with_filter st.parts x (used_at used 1) (forget_deal st.parts name o))
deal_of s t st (forms.Post name info) used =
    answering st.parts (answers.Number (pos (length (live_receivers st.parts name (first_of used)))))
deal_of s t st x used =
    let deed = deed_at s.classes st.parts.objects x used in
    change_deal st.parts deed.answer (first_of used) (change_unless_skipped deed.answer deed.change)

-- what a statement posts to
abbrev pub posts_of : Parts → Statement → List (Option ℕ) → List ℕ
posts_of p (forms.Post name info) used = live_receivers p name (first_of used)
posts_of p _ used = []
