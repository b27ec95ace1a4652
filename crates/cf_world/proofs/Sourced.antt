-- In a run of a script whose statements make no timer and no observer every item of a run loop is a source. So no mode
-- has a date, and no phase but that of sources collects anything.
use Rattle.std.proofs.Common.{◌≡◌, ℕ, zero, suc, ◌+◌, ◌∙◌, Bool, true, false, cond, List, [], ◌∷◌, ◌++◌, map, Option, Some, None, refl, sym, ap, subst, ltb}
use Rattle.std.specs.Prelude.{slice_get, ◌==◌, ◌&&◌, not, filter, flat_map, option_and_then}
use Rattle.rl_base.specs.declared.places.Place.{Place}
use Rattle.rl_base.specs.Dates.{has_come, least_date}
use Rattle.rl_base.specs.Modes.{items_gained}
use Rattle.rl_base.specs.Ranks.{sorted_by}
use Rattle.rl_base.specs.Activities.{observer_order, is_matching, matching_observers}
use Rattle.rl_base.specs.declared.observers.ObserverState.{ObserverState}
use Rattle.rl_turn.specs.declared.phases.Phase.{Phase}
use Rattle.rl_turn.specs.declared.phases.Phase.TheVariants as phases
use Rattle.cf_ids.specs.declared.answer.Answer.{Answer}
use Rattle.cf_ids.specs.declared.answer.Answer.TheVariants as answers
use Rattle.cf_ids.specs.declared.numbers.ItemKind.TheVariants.{Source}
use Rattle.cf_syntax.specs.declared.script.Script.{Script}
use Rattle.cf_syntax.specs.declared.script.Block.{Block}
use Rattle.cf_syntax.specs.declared.script.Given.{Given}
use Rattle.cf_syntax.specs.declared.statement.Statement.{Statement}
use Rattle.cf_syntax.specs.declared.statement.Statement.TheVariants as forms
use Rattle.cf_syntax.specs.declared.mention.Ownership.{Ownership}
use Rattle.cf_syntax.specs.declared.mention.Ownership.TheVariants.{Keeps, Binds, Retains, Releases}
use Rattle.cf_syntax.specs.Mentions.{ownership_of, first_of, used_at}
use Rattle.cf_syntax.specs.BlockLines.{BlockLine, begins, claims, says, packs, claims_from, packs_from, packs_for, statements_in, uses_in, thread_blocks, handler_block, thread_block, thread_lines, handler_lines}
use Rattle.cf_syntax.proofs.StageLaws.{AllLines, lines_append, one_more, no_lines, said_lines}
use Rattle.cf_syntax.specs.Stage.{is_of_stage, IsOfStage}
use Rattle.cf_graph.specs.Holders.{variable, parcel, in_mode}
use Rattle.cf_graph.specs.Edges.{held_by, has}
use Rattle.cf_contents.specs.Items.{Item, source_item, timer_item, observer_item, kind_of, date_in}
use Rattle.cf_contents.specs.Contents.{Content, item_content, Object}
use Rattle.cf_contents.specs.Deeds.{Change, in_item, deed_at, item_after, with_change}
use Rattle.cf_contents.proofs.FormLaws.{ChangesNoItem}
use Rattle.cf_next.specs.Facts.{Facts}
use Rattle.cf_next.specs.Stands.{Binding, Work, Kind, of_block, of_handler, of_run, Turn, Frame, item_of, has_run}
use Rattle.cf_next.specs.Demands.{Demand, does, ends, returns, owes, spends, drops, calls, enters, closes, frame_lines}
use Rattle.cf_next.specs.Advance.{top_kind}
use Rattle.cf_next.specs.Next.{object_at, used_objects}
use Rattle.cf_next.specs.declared.action.Action.{Action}
use Rattle.cf_model.specs.declared.entry.Entry.{Entry}
use Rattle.cf_model.specs.State.{State, Parts, Sleeping, awake, start, stand_at, flags_at, first_held, objects_of, is_common}
use Rattle.cf_model.specs.Known.{facts_of}
use Rattle.cf_model.specs.Things.{Thing, thing_in, thing_of, thing_at, is_valid_thing, date_of_thing, observer_in, observer_of, is_due, date_or, collected_of, valid_date, items_in, mode_date}
use Rattle.cf_model.specs.Own.{present_of}
use Rattle.cf_model.specs.Deals.{Deal, okay, with_used, with_thing, thing_deal, with_filter, with_item, place_in, holds_at, held_at, thread_in, stays_in_one, is_elsewhere, places_added, places_dropped, entering, leaving, add_deal, drop_deal, common_items, common_deal, wake_parts, signal_deal, invalidate_deal, stop_deal, observe_deal, forget_deal, answering, change_deal, change_unless_skipped, deal_of}
use Rattle.cf_model.specs.Steps.{Made, item_made, made_from, bound_if, fired, fire, fire_if, spend_if, idle, sleeping, retain_step, release_step, claim_step, pack_step, packed_holder, statement_step, line_step, start_all, sleep_step, unwoken_step, phase_step, close_step, step_of, frames_at, bindings_of, depth_of, demanded, acted}
use Rattle.cf_model.specs.Plain.{deed_in}
use Rattle.cf_model.specs.Journals.{after_action, state_from, After}
use Rattle.cf_model.proofs.DeedLaws.{keeps_things, deed_edits, deed_makes}
use Rattle.cf_model.proofs.Entries.{ActionView, is_tick, is_stall, is_step, action_view}
use Rattle.cf_model.proofs.PlainDeals.{deed_fits, NoThings, made_no_things}
use Rattle.cf_model.proofs.Views.{FrameView, StandView, WorkView, first_drops, first_owes, first_spends, is_call, is_close, is_end, is_line, is_phase, is_return, of_frame, of_work, stand_view}
use Rattle.cf_loops.specs.Following.{KeepsKind}

-- a statement makes no timer and no observer
abbrev pub MakesSources : Statement → Type 0
MakesSources (forms.MakeTimer v first interval handler info) = ⊥
MakesSources (forms.MakeObserver v mask repeats order handler info) = ⊥
MakesSources _ = Unit {0}

-- every item among objects is a source
abbrev pub AllSources : List Object → Type 0
AllSources objects = (i : ℕ) (x : Thing) → thing_of (slice_get objects i) ≡ Some x → kind_of x.item ≡ Source

-- each statement of each block of a script makes no timer and no observer
abbrev pub OnlySources : Script → Type 0
OnlySources s = (b n : ℕ) (x : Statement) → slice_get (statements_in (slice_get s.blocks b)) n ≡ Some x → MakesSources x

-- ---- objects that are changed, and objects that are made

-- what two options say is the same thing
thing_is : (x y : Thing) → ◌≡◌ {A = Option Thing} (Some x) (Some y) → x ≡ y
thing_is x y e = cc

-- there is no object, so no item
none_there : AllSources []
none_there i x e = absurd cc

-- every item of two lists is a source if each is so in its list
append_sources : (obs more : List Object) → AllSources obs → AllSources more → AllSources (obs ++ more)
append_sources [] more h k i x e = k i x e
append_sources (ob ∷ obs) more h k zero x e = h zero x e
append_sources (ob ∷ obs) more h k (suc i) x e = append_sources obs more (λ j y q. h (suc j) y q) k i x e

-- an item is a source after it became one, and what is no item stays none
item_source : (valid : Bool) (item : Item) (c : Content) → kind_of item ≡ Source
    → ((x : Thing) → thing_in c ≡ Some x → kind_of x.item ≡ Source) → (x : Thing)
    → thing_in (item_after valid item c) ≡ Some x → kind_of x.item ≡ Source
item_source valid item (item_content handler info v old) is h x e =
    subst (λ (y : Thing). kind_of y.item ≡ Source)
    (thing_is (record { handler = handler; info = info; valid = valid; item = item }) x e) is
item_source valid item c is h x e = h x e

-- the item of a place became a source
item_sources : (o : ℕ) (valid : Bool) (item : Item) (obs : List Object) → kind_of item ≡ Source → AllSources obs
    → AllSources (with_change o (in_item valid item) obs)
item_sources o valid item [] is h i x e = h i x e
item_sources zero valid item (ob ∷ obs) is h zero x e =
    item_source valid item ob.content is (λ y q. h zero y q) x e
item_sources zero valid item (ob ∷ obs) is h (suc i) x e = h (suc i) x e
item_sources (suc o) valid item (ob ∷ obs) is h zero x e = h zero x e
item_sources (suc o) valid item (ob ∷ obs) is h (suc i) x e =
    item_sources o valid item obs is (λ j y q. h (suc j) y q) i x e

-- no change of an object makes an item of another kind
changed_sources : (o : ℕ) (change : Change) (obs : List Object) → KeepsKind change Source → AllSources obs
    → AllSources (with_change o change obs)
changed_sources o (in_item valid item) obs fits h = item_sources o valid item obs fits h
changed_sources o change obs fits h = λ i x e. h i x (sym (keeps_things o change obs i tt) ∙ e)

-- ---- what a statement binds

-- where nothing is an item everything that is one is a source
no_things : (obs : List Object) → NoThings obs → AllSources obs
no_things obs none i x e = absurd (some_none x (sym (none i) ∙ e))
  where
    some_none : (x : Thing) → ◌≡◌ {A = Option Thing} None (Some x) → ⊥
    some_none x e = cc

-- an item that a statement makes is a source
made_source : (x : Statement) (m : Made) → MakesSources x → item_made x ≡ Some m → kind_of m.item ≡ Source
made_source (forms.MakeSource v order handler info) m makes e =
    subst (λ (n : Made). kind_of n.item ≡ Source)
    (made_is (record { handler = handler; item = source_item order false }) m e) refl
  where
    made_is : (a b : Made) → ◌≡◌ {A = Option Made} (Some a) (Some b) → a ≡ b
    made_is a b e = cc
made_source (forms.MakeTimer v first interval handler info) m makes e = absurd makes
made_source (forms.MakeObserver v mask repeats order handler info) m makes e = absurd makes
made_source x m makes e = absurd cc

-- what a statement makes is a source or no item
bound_sources : (s : Script) (p : Parts) (x : Statement) (used : List (Option ℕ)) → MakesSources x
    → AllSources (made_from (bound_if s p x used (item_made x)).origin)
bound_sources s p x used makes = by (item_made x) refl
  where
    by : (m : Option Made) → item_made x ≡ m → AllSources (made_from (bound_if s p x used m).origin)
    by None e i y q =
        no_things (made_from (deed_at s.classes p.objects x used).origin)
        (made_no_things (deed_at s.classes p.objects x used).origin (deed_makes s.classes p.objects x used)) i y q
    by (Some m) e zero y q =
        subst (λ (z : Thing). kind_of z.item ≡ Source)
        (thing_is (record { handler = m.handler; info = first_of used; valid = true; item = m.item }) y q)
        (made_source x m makes e)
    by (Some m) e (suc i) y q = none_there i y q

-- ---- deals

-- a deal by an object that may be missing
by_used : (p : Parts) (o : Option ℕ) (deal : ℕ → Deal) → AllSources p.objects
    → ((i : ℕ) → AllSources (deal i).parts.objects) → AllSources (with_used p o deal).parts.objects
by_used p None deal all h = all
by_used p (Some i) deal all h = h i

-- a deal by what may be an item, which is then a source
by_thing : (p : Parts) (o : Option ℕ) (deal : ℕ → Thing → Deal) → AllSources p.objects
    → ((i : ℕ) (x : Thing) → kind_of x.item ≡ Source → AllSources (deal i x).parts.objects)
    → AllSources (with_thing p o deal).parts.objects
by_thing p None deal all h = all
by_thing p (Some i) deal all h = by (thing_at p i) refl
  where
    by : (q : Option Thing) → thing_at p i ≡ q → AllSources (thing_deal p i deal q).parts.objects
    by None e = all
    by (Some x) e = h i x (all i x e)

-- a deal by a filter that may be missing
by_filter : (p : Parts) (v object : Option ℕ) (deal : Option ℕ → Deal) → AllSources p.objects
    → ((o : Option ℕ) → AllSources (deal o).parts.objects) → AllSources (with_filter p v object deal).parts.objects
by_filter p None object deal all h = h None
by_filter p (Some v) object deal all h = by_used p object (λ o. deal (Some o)) all (λ o. h (Some o))

-- one of two deals
by_either : (b : Bool) (x y : Deal) → AllSources x.parts.objects → AllSources y.parts.objects
    → AllSources (cond b x y).parts.objects
by_either true x y h k = h
by_either false x y h k = k

-- an item is put in the place of what may be one
with_item_sources : (p : Parts) (i : ℕ) (valid : Bool) (item : Item) → AllSources p.objects → kind_of item ≡ Source
    → AllSources (with_item p i valid item).objects
with_item_sources p i valid item all is = item_sources i valid item p.objects is all

-- a signal leaves every item a source
signal_sources : (p : Parts) (i : ℕ) (valid : Bool) (item : Item) → AllSources p.objects
    → AllSources (signal_deal p i valid item).parts.objects
signal_sources p i true (source_item order signalled) all =
    with_item_sources p i true (source_item order true) all refl
signal_sources p i false (source_item order signalled) all = all
signal_sources p i valid (timer_item first interval date) all = all
signal_sources p i valid (observer_item mask repeats order) all = all

-- so does an invalidation
invalidate_sources : (s : Script) (st : State) (i : ℕ) (x : Thing) → AllSources st.parts.objects
    → kind_of x.item ≡ Source → AllSources (invalidate_deal s st i x).parts.objects
invalidate_sources s st i x all is = by_either x.valid _ _ (with_item_sources st.parts i false x.item all is) all

-- so does a change of a body that leaves a source one
change_sources : (p : Parts) (a : Answer) (o : Option ℕ) (change : Change) → KeepsKind change Source
    → AllSources p.objects → AllSources (change_deal p a o change).parts.objects
change_sources p a None change fits all = all
change_sources p a (Some b) change fits all = changed_sources b change p.objects fits all

-- the deed of a statement changes no item
deed_sources : (s : Script) (st : State) (x : Statement) (used : List (Option ℕ)) → AllSources st.parts.objects
    → let deed = deed_in s st x used in
    AllSources
    (change_deal st.parts deed.answer (first_of used) (change_unless_skipped deed.answer deed.change)).parts.objects
deed_sources s st x used all =
    let deed = deed_in s st x used in
    change_sources st.parts deed.answer (first_of used) (change_unless_skipped deed.answer deed.change)
    (subst (λ (c : Change). KeepsKind c Source) (sym (deed_fits s st x used).0) (no_item_kind deed.change (deed_edits s.classes st.parts.objects x used)))
    all
  where
    no_item_kind : (change : Change) → ChangesNoItem change → KeepsKind change Source
    no_item_kind (in_item valid item) h = absurd h
    no_item_kind _ h = tt

-- an item that is added to a place stays what it is
add_sources : (s : Script) (st : State) (u : ℕ) (p : Place) (i : ℕ) (x : Thing) → AllSources st.parts.objects
    → AllSources (add_deal s st u p i x).parts.objects
add_sources s st u p i x all =
    let added : Deal = entering st.parts (held_at u i (places_added s u i st p)) in
    let present : Deal = cond (holds_at u i st.edges p) (answering st.parts answers.Present) added in
    let elsewhere : Deal = cond (stays_in_one (kind_of x.item) && is_elsewhere s u i st.edges) (answering st.parts answers.Elsewhere) present in
    by_either (not x.valid) (answering st.parts answers.Invalid) elsewhere all
    (by_either (stays_in_one (kind_of x.item) && is_elsewhere s u i st.edges) (answering st.parts answers.Elsewhere) present all
    (by_either (holds_at u i st.edges p) (answering st.parts answers.Present) added all all))

-- so does one that is dropped from a place
drop_sources : (s : Script) (st : State) (u : ℕ) (p : Place) (i : ℕ) → AllSources st.parts.objects
    → AllSources (drop_deal s st u p i).parts.objects
drop_sources s st u p i all =
    by_either (holds_at u i st.edges p) (leaving st.parts (present_of (held_at u i (places_dropped s u i st p)) st.edges)) (answering st.parts answers.Absent) all all

-- a mode that becomes a common one changes no item
common_sources : (st : State) (u m : ℕ) → AllSources st.parts.objects
    → AllSources (common_deal st u m).parts.objects
common_sources st u m all = by (is_common u st.parts.commons m)
  where
    by : (b : Bool) → AllSources (cond b (answering st.parts answers.Present) (record (okay st.parts) {
      parts = record st.parts { commons = record { thread = u; mode = m } ∷ st.parts.commons };
      enters = map (held_by (in_mode u m)) (items_gained (λ i. has (in_mode u m) i st.edges) (common_items st u));
    })).parts.objects
    by true = all
    by false = all

-- a stop changes no item
stop_sources : (st : State) (u : ℕ) → AllSources st.parts.objects → AllSources (stop_deal st u).parts.objects
stop_sources st u all =
    by_either (has_run (stand_at u st.stands).frames) (record (okay (wake_parts st.parts u)) { stops = Some u }) (answering st.parts answers.Idle) all all

-- the deal of a statement leaves every item a source
deal_sources : (s : Script) (t : ℕ) (st : State) (x : Statement) (used : List (Option ℕ)) → AllSources st.parts.objects
    → AllSources (deal_of s t st x used).parts.objects
deal_sources s t st (forms.Add v u m) used all =
    by_thing st.parts (first_of used) (λ i x. with_used st.parts (thread_in t u) (λ w. add_deal s st w (place_in m) i x)) all
    (λ i x is. by_used st.parts (thread_in t u) (λ w. add_deal s st w (place_in m) i x) all (λ w. add_sources s st w (place_in m) i x all))
deal_sources s t st (forms.Drop v u m) used all =
    by_thing st.parts (first_of used) (λ i x. with_used st.parts (thread_in t u) (λ w. drop_deal s st w (place_in m) i)) all
    (λ i x is. by_used st.parts (thread_in t u) (λ w. drop_deal s st w (place_in m) i) all (λ w. drop_sources s st w (place_in m) i all))
deal_sources s t st (forms.Common u m) used all =
    by_used st.parts (thread_in t u) (λ w. common_deal st w m) all (λ w. common_sources st w m all)
deal_sources s t st (forms.Signal v) used all =
    by_thing st.parts (first_of used) (λ i x. signal_deal st.parts i x.valid x.item) all (λ i x is. signal_sources st.parts i x.valid x.item all)
deal_sources s t st (forms.Invalidate v) used all =
    by_thing st.parts (first_of used) (invalidate_deal s st) all (λ i x is. invalidate_sources s st i x all is)
deal_sources s t st (forms.Wake u) used all = by_used st.parts (thread_in t u) _ all (λ w. all)
deal_sources s t st (forms.Stop u) used all =
    by_used st.parts (thread_in t u) (stop_deal st) all (λ w. stop_sources st w all)
deal_sources s t st (forms.Run m limit once) used all = all
deal_sources s t st (forms.Observe v h name x) used all =
    by_used st.parts (first_of used) (λ o. with_filter st.parts x (used_at used 1) (observe_deal st.parts h name o)) all
    (λ o. by_filter st.parts x (used_at used 1) (observe_deal st.parts h name o) all (λ f. all))
deal_sources s t st (forms.Forget v name x) used all =
    by_used st.parts (first_of used) (λ o. with_filter st.parts x (used_at used 1) (forget_deal st.parts name o)) all
    (λ o. by_filter st.parts x (used_at used 1) (forget_deal st.parts name o) all (λ f. all))
deal_sources s t st (forms.Post name info) used all = all
deal_sources s t st x used all = deed_sources s st x used all

-- ---- lines

-- the step of a statement that makes no timer and no observer leaves every item a source
statement_sources : (s : Script) (t d : ℕ) (st : State) (x : Statement) (used : List (Option ℕ)) (w : Ownership)
    → MakesSources x → AllSources st.parts.objects → AllSources (statement_step s t d st x used w).parts.objects
statement_sources s t d st x used Keeps makes all = deal_sources s t st x used all
statement_sources s t d st x used (Binds v) makes all =
    append_sources st.parts.objects _ all (bound_sources s st.parts x used makes)
statement_sources s t d st x used (Retains v) makes all = by (first_of used)
  where
    by : (o : Option ℕ) → AllSources (retain_step (variable t d v) st o).parts.objects
    by None = all
    by (Some o) = all
statement_sources s t d st x used (Releases v) makes all = by (first_of used)
  where
    by : (o : Option ℕ) → AllSources (release_step t (variable t d v) st o).parts.objects
    by None = all
    by (Some o) = all

-- a line makes no timer and no observer
abbrev pub LineMakesSources : BlockLine → Type 0
LineMakesSources (says x) = MakesSources x
LineMakesSources _ = Unit {0}

-- so does the step of a line
line_sources : (s : Script) (t d : ℕ) (st : State) (bs : List Binding) (x : BlockLine) → LineMakesSources x
    → AllSources st.parts.objects → AllSources (line_step s t d st bs x).parts.objects
line_sources s t d st bs (begins v) makes all = all
line_sources s t d st bs (claims k v) makes all = by (first_held (parcel t k) st.edges)
  where
    by : (o : Option ℕ) → AllSources (claim_step st (parcel t k) o (variable t d v)).parts.objects
    by None = all
    by (Some o) = all
line_sources s t d st bs (packs u k v) makes all = by (object_at bs v)
  where
    by : (o : Option ℕ) → AllSources (pack_step t st (packed_holder t d v) o (parcel u k)).parts.objects
    by None = all
    by (Some o) = all
line_sources s t d st bs (says x) makes all =
    statement_sources s t d st x (used_objects bs (says x)) (ownership_of x) makes all

-- ---- what no line writes

-- a callout leaves an item one of its kind
kind_stays : (time : ℕ) (item : Item) → kind_of (fired time item) ≡ kind_of item
kind_stays time (source_item order signalled) = refl
kind_stays time (timer_item first interval date) = refl
kind_stays time (observer_item mask repeats order) = refl

-- a callout leaves every item a source
fire_sources : (p : Parts) (o : Option ℕ) → AllSources p.objects → AllSources (fire_if p o).objects
fire_sources p None all = all
fire_sources p (Some i) all = by (thing_at p i) refl
  where
    by : (q : Option Thing) → thing_at p i ≡ q → AllSources (fire p i q).objects
    by None e = all
    by (Some x) e =
        with_item_sources p i x.valid (fired p.time x.item) all (kind_stays p.time x.item ∙ all i x e)

-- so does an item that is invalidated after its callout
spend_sources : (s : Script) (st : State) (i : ℕ) → AllSources st.parts.objects
    → AllSources (spend_if s st i (thing_at st.parts i)).parts.objects
spend_sources s st i all = by (thing_at st.parts i) refl
  where
    by : (q : Option Thing) → thing_at st.parts i ≡ q → AllSources (spend_if s st i q).parts.objects
    by None e = all
    by (Some x) e = by_either x.valid _ _ (invalidate_sources s st i x all (all i x e)) all

-- a sleep changes no item
sleep_sources : (st : State) (t : ℕ) (r : Turn) → AllSources st.parts.objects
    → AllSources (sleep_step st t r).parts.objects
sleep_sources st t r all = by (flags_at t st.parts.flags).is_woken
  where
    unwoken : (b : Bool) (a : Answer) (sleep : Sleeping)
        → AllSources (cond b (idle st answers.Due) (sleeping st t a sleep)).parts.objects
    unwoken true a sleep = all
    unwoken false a sleep = all

    by : (b : Bool) → AllSources (cond b (sleeping st t answers.Woken awake) (unwoken_step st t r)).parts.objects
    by true = all
    by false = unwoken _ _ _

-- no phase of a run changes an item
phase_sources : (st : State) (t : ℕ) (p : Phase) (k : Kind) → AllSources st.parts.objects
    → AllSources (phase_step st t p k).parts.objects
phase_sources st t phases.Sleep (of_run r) all = sleep_sources st t r all
phase_sources st t p of_block all = all
phase_sources st t p (of_handler k) all = all
phase_sources st t p (of_run r) all = all

-- a demand makes no timer and no observer
abbrev pub DemandMakesSources : Demand → Type 0
DemandMakesSources (does x) = LineMakesSources x
DemandMakesSources _ = Unit {0}

-- a demand that makes no timer and no observer leaves every item a source
pub demand_sources : (s : Script) (t : ℕ) (st : State) (fs : List Frame) (d : Demand) → DemandMakesSources d
    → AllSources st.parts.objects → AllSources (step_of s t st fs d).parts.objects
demand_sources s t st fs (does x) makes all = line_sources s t (depth_of fs) st (bindings_of fs) x makes all
demand_sources s t st fs ends makes all = by (t == 0)
  where
    by : (b : Bool) → AllSources (cond b (record st.parts { flags = start_all st.parts.flags }) st.parts).objects
    by true = all
    by false = all
demand_sources s t st fs returns makes all = all
demand_sources s t st fs (owes o) makes all = all
demand_sources s t st fs (spends i) makes all = spend_sources s st i all
demand_sources s t st fs (drops b k o) makes all = all
demand_sources s t st fs (calls k c) makes all = fire_sources st.parts (item_of k) all
demand_sources s t st fs (enters p) makes all = phase_sources st t p (top_kind fs) all
demand_sources s t st fs closes makes all = by (top_kind fs)
  where
    by : (k : Kind) → AllSources (close_step st k).parts.objects
    by of_block = all
    by (of_handler k) = all
    by (of_run r) = all

-- ---- what a thread says stands in its script

-- claims make nothing
claim_lines : (k : ℕ) (us : List Given) → AllLines LineMakesSources (claims_from k us)
claim_lines k [] = no_lines LineMakesSources
claim_lines k (u ∷ us) = one_more LineMakesSources (claims k u.own) (claims_from (k + 1) us) tt (claim_lines (k + 1) us)

-- words that setup packs make nothing
pack_lines : (t k : ℕ) (us : List Given) → AllLines LineMakesSources (packs_from t k us)
pack_lines t k [] = no_lines LineMakesSources
pack_lines t k (u ∷ us) = one_more LineMakesSources (packs t k u.setup) (packs_from t (k + 1) us) tt (pack_lines t (k + 1) us)

-- those for all threads make nothing
all_packs : (t : ℕ) (bs : List Block) → AllLines LineMakesSources (packs_for t bs)
all_packs t [] = no_lines LineMakesSources
all_packs t (b ∷ bs) =
    lines_append LineMakesSources (packs_from t 0 b.uses) (packs_for (t + 1) bs) (pack_lines t 0 b.uses) (all_packs (t + 1) bs)

-- each statement of a block makes no timer and no observer
abbrev AllMake : Option Block → Type 0
AllMake o = (n : ℕ) (x : Statement) → slice_get (statements_in o) n ≡ Some x → MakesSources x

-- a block that is not there says nothing
nothing_said : AllMake None
nothing_said n x e = absurd cc

-- the block of a thread makes no timer and no observer
thread_statements : (s : Script) (t : ℕ) → OnlySources s → AllMake (thread_block s t)
thread_statements s t only = by (ltb t s.thread_count)
  where
    by : (b : Bool) → AllMake (cond b (slice_get s.blocks t) None)
    by true = λ n x e. only t n x e
    by false = nothing_said

-- the block of a handler makes no timer and no observer
handler_statements : (s : Script) (o : Option ℕ) → OnlySources s
    → AllMake (option_and_then (λ b. slice_get s.blocks b) o)
handler_statements s None only = nothing_said
handler_statements s (Some b) only = λ n x e. only b n x e

-- each line of a thread makes no timer and no observer
thread_line : (s : Script) (t : ℕ) → OnlySources s → AllLines LineMakesSources (thread_lines s t)
thread_line s zero only =
    lines_append LineMakesSources (map says (statements_in (slice_get s.blocks 0))) (packs_for 1 (thread_blocks s))
    (said_lines LineMakesSources (statements_in (slice_get s.blocks 0)) (λ n x e. only 0 n x e)) (all_packs 1 (thread_blocks s))
thread_line s (suc t) only =
    lines_append LineMakesSources (claims_from 0 (uses_in (thread_block s (suc t)))) (map says (statements_in (thread_block s (suc t))))
    (claim_lines 0 (uses_in (thread_block s (suc t))))
    (said_lines LineMakesSources (statements_in (thread_block s (suc t))) (thread_statements s (suc t) only))

-- each line of a handler makes no timer and no observer
handler_line : (s : Script) (h : ℕ) → OnlySources s → AllLines LineMakesSources (handler_lines s h)
handler_line s h only =
    let xs = statements_in (option_and_then (λ b. slice_get s.blocks b) (handler_block s h)) in
    one_more LineMakesSources (begins 0) (map says xs) tt (said_lines LineMakesSources xs (handler_statements s (handler_block s h) only))

-- each line of a frame makes no timer and no observer
frame_line : (s : Script) (k : Kind) (b : ℕ) → OnlySources s → AllLines LineMakesSources (frame_lines s k b)
frame_line s of_block b only = thread_line s b only
frame_line s (of_handler k) b only = handler_line s b only
frame_line s (of_run r) b only = no_lines LineMakesSources

module _ (s : Script) (st : State) (t : ℕ) (only : OnlySources s) where
  -- what a frame demands makes no timer and no observer
  by_frame : (f : Frame) (d : Demand) → FrameView s (facts_of st) t f d → DemandMakesSources d
  by_frame f _ (is_line x at) = frame_line s f.kind f.block only f.number x at
  by_frame f _ (is_call k called found) = tt
  by_frame f _ (is_end k) = tt
  by_frame f _ (is_return k q end) = tt
  by_frame f _ (is_phase r p q) = tt
  by_frame f _ (is_close r q) = tt

  -- work that is left makes nothing
  by_work : (facts : Facts) (work : List Work) (d : Demand) → WorkView facts work d → DemandMakesSources d
  by_work facts work _ (first_owes p first) = tt
  by_work facts work _ (first_spends i first) = tt
  by_work facts work _ (first_drops b k p left first) = tt

  -- what a thread demands by where it stands makes no timer and no observer
  by_stand : (d : Demand) → StandView s (facts_of st) t (stand_at t st.stands) d → DemandMakesSources d
  by_stand d (of_work w view) = by_work (facts_of st) (stand_at t st.stands).work d view
  by_stand d (of_frame f fs w q view) = by_frame f d view

  -- what a thread demands makes no timer and no observer
  pub demand_makes : (d : Demand) → demanded s st t ≡ Some d → DemandMakesSources d
  demand_makes d e = by_stand d (stand_view s (facts_of st) t (stand_at t st.stands) d e)

-- ---- journals

-- what a thread does leaves every item a source
acted_sources : (s : Script) (st : State) (t : ℕ) (d : Option Demand) → OnlySources s → AllSources st.parts.objects
    → demanded s st t ≡ d → AllSources (acted s t st d).parts.objects
acted_sources s st t None only all e = all
acted_sources s st t (Some d) only all e =
    demand_sources s t st (frames_at t st) d (demand_makes s st t only d e) all

-- so does an entry, by what its action is
entry_sources : (s : Script) (st : State) (t : ℕ) (a : Action) → OnlySources s → AllSources st.parts.objects
    → ActionView a → AllSources (after_action s t st a).parts.objects
entry_sources s st t _ only all (is_tick n) = all
entry_sources s st t _ only all is_stall = all
entry_sources s st t a only all (is_step _ step) =
    subst (λ (z : State). AllSources z.parts.objects) (sym (step.after s t st))
    (acted_sources s st t (demanded s st t) only all refl)

-- an entry leaves every item a source
pub sourced_after_action : (s : Script) (st : State) (t : ℕ) (a : Action) → OnlySources s
    → AllSources st.parts.objects → AllSources (after_action s t st a).parts.objects
sourced_after_action s st t a only all = entry_sources s st t a only all (action_view a)

-- so do entries, from a state on
pub sourced_from : (s : Script) (st : State) (es : List Entry) → OnlySources s → AllSources st.parts.objects
    → AllSources (state_from s st es).parts.objects
sourced_from s st [] only all = all
sourced_from s st (e ∷ es) only all =
    sourced_from s (after_action s e.thread st e.action) es only (sourced_after_action s st e.thread e.action only all)

-- after a journal of a script that makes no timer and no observer every item is a source
pub sourced : (s : Script) (es : List Entry)
    → ((b n : ℕ) (x : Statement) → slice_get (statements_in (slice_get s.blocks b)) n ≡ Some x → MakesSources x)
    → AllSources (After s es).parts.objects
sourced s es only = sourced_from s (start s) es only none_there

-- a statement of a form that the reader takes makes no item
staged_makes : (x : Statement) → is_of_stage x ≡ true → MakesSources x
staged_makes (forms.MakeTimer v first interval handler info) of = absurd cc
staged_makes (forms.MakeObserver v mask repeats order handler info) of = absurd cc
staged_makes x of = tt

-- a script of the forms that the reader takes makes no timer and no observer
pub staged_sources : (s : Script) → IsOfStage s → (b n : ℕ) (x : Statement)
    → slice_get (statements_in (slice_get s.blocks b)) n ≡ Some x → MakesSources x
staged_sources s stage b n x e = staged_makes x (stage b n x e)

-- ---- what sources have not

-- nothing passes a filter that no number passes
none_passes : (f : ℕ → Bool) (xs : List ℕ) → ((i : ℕ) → f i ≡ false) → filter f xs ≡ []
none_passes f [] h = refl
none_passes f (x ∷ xs) h = rw (h x) (none_passes f xs h)

-- of numbers without a date there is no least date
no_least : (f : ℕ → Option ℕ) (xs : List ℕ) → ((i : ℕ) → f i ≡ None) → least_date (map f xs) ≡ None
no_least f [] h = refl
no_least f (x ∷ xs) h = rw (h x) (no_least f xs h)

-- numbers that each give an empty list give an empty list
none_listed : (f : ℕ → List ObserverState) (xs : List ℕ) → ((i : ℕ) → f i ≡ []) → flat_map f xs ≡ []
none_listed f [] h = refl
none_listed f (x ∷ xs) h = rw (h x) (none_listed f xs h)

-- what may be an item is a source if it is one
abbrev IsSourceIf : Option Thing → Type 0
IsSourceIf o = (x : Thing) → o ≡ Some x → kind_of x.item ≡ Source

-- a source has no date
no_item_date : (item : Item) → kind_of item ≡ Source → date_in item ≡ None
no_item_date (source_item order signalled) is = refl
no_item_date (timer_item first interval date) is = absurd cc
no_item_date (observer_item mask repeats order) is = absurd cc

-- a source is no observer
no_item_observer : (i : ℕ) (valid : Bool) (item : Item) → kind_of item ≡ Source → observer_in i valid item ≡ []
no_item_observer i valid (source_item order signalled) is = refl
no_item_observer i valid (timer_item first interval date) is = absurd cc
no_item_observer i valid (observer_item mask repeats order) is = absurd cc

-- a valid source has no date
no_valid_date : (o : Option Thing) → IsSourceIf o → valid_date o ≡ None
no_valid_date None is = refl
no_valid_date (Some x) is = by x.valid
  where
    by : (b : Bool) → cond b (date_in x.item) None ≡ None
    by true = no_item_date x.item (is x refl)
    by false = refl

-- where every item is a source nothing has a date
no_thing_date : (o : Option Thing) → IsSourceIf o → date_of_thing o ≡ None
no_thing_date None is = refl
no_thing_date (Some x) is = no_item_date x.item (is x refl)

-- where every item is a source nothing is an observer
no_thing_observer : (i : ℕ) (o : Option Thing) → IsSourceIf o → observer_of i o ≡ []
no_thing_observer i None is = refl
no_thing_observer i (Some x) is = no_item_observer i x.valid x.item (is x refl)

-- what has no date is not due
never_due : (valid : Bool) (date : Option ℕ) (now : ℕ) → date ≡ None → (valid && has_come date now) ≡ false
never_due true date now e = rw e refl
never_due false date now e = refl

-- where every item is a source no mode has a date
pub no_date : (st : State) (t m : ℕ) → AllSources st.parts.objects → mode_date st t m ≡ None
no_date st t m all =
    no_least (λ i. valid_date (thing_at st.parts i)) (items_in st t m)
    (λ i. no_valid_date (thing_at st.parts i) (λ x e. all i x e))

-- where every item is a source no timer is collected
pub no_timers : (p : Parts) (items : List ℕ) → AllSources p.objects → collected_of p phases.Timers items ≡ []
no_timers p items all =
    ap (sorted_by (λ i. date_or (date_of_thing (thing_at p i))))
    (none_passes (is_due p) items
    (λ i. never_due (is_valid_thing (thing_at p i)) (date_of_thing (thing_at p i)) p.time (no_thing_date (thing_at p i) (λ x e. all i x e))))

-- where every item is a source no observer is collected
pub no_observers : (p : Parts) (a : ℕ) (items : List ℕ) → AllSources p.objects
    → collected_of p (phases.Note a) items ≡ []
no_observers p a items all =
    ap (λ (os : List ObserverState). matching_observers a os items)
    (none_listed (λ i. observer_of i (thing_at p i)) (objects_of p) (λ i. no_thing_observer i (thing_at p i) (λ x e. all i x e)))
    ∙ ap (sorted_by (observer_order [])) (none_passes (is_matching a []) items (λ i. refl))
