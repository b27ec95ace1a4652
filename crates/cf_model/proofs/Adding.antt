-- What one entry adds at most: one object, one that is finalised, and one member of each collection.
use Rattle.std.proofs.Common.{◌≡◌, ℕ, ◌+◌, ◌<◌, ◌≤◌, ◌⊎◌, Bool, true, false, cond, List, [], ◌∷◌, ◌++◌, length, map, Option, Some, None, refl, sym, ap, ◌∙◌, subst, arith, inl, inr, append-nil, length-append, ◌==◌}
use Rattle.std.specs.Prelude.{slice_get, not, ◌&&◌}
use Rattle.cf_ids.specs.declared.answer.Answer.{Answer}
use Rattle.cf_ids.specs.declared.answer.Answer.TheVariants as answers
use Rattle.rl_base.specs.declared.places.Place.{Place}
use Rattle.rl_base.specs.Modes.{items_gained}
use Rattle.cf_syntax.specs.declared.script.Script.{Script}
use Rattle.cf_syntax.specs.declared.statement.Statement.{Statement}
use Rattle.cf_syntax.specs.declared.statement.Statement.TheVariants as forms
use Rattle.cf_syntax.specs.declared.mention.Ownership.{Ownership}
use Rattle.cf_syntax.specs.declared.mention.Ownership.TheVariants.{Keeps, Binds, Retains, Releases}
use Rattle.cf_syntax.specs.Mentions.{ownership_of, makes_object, used_at, first_of}
use Rattle.cf_syntax.specs.BlockLines.{BlockLine, begins, claims, says, packs}
use Rattle.cf_contents.specs.Items.{Item, source_item, kind_of, class_of}
use Rattle.cf_contents.specs.Contents.{Object, item_content, size_of, size_at}
use Rattle.cf_contents.specs.Deeds.{Origin, nowhere, fresh, there, Change, in_item, deed_at, objects_after}
use Rattle.cf_contents.specs.Keys.{numbered}
use Rattle.cf_contents.specs.Stores.{Held, objects_of, MayGrow}
use Rattle.cf_contents.proofs.ContentLaws.{length-objects_after}
use Rattle.cf_contents.proofs.FormLaws.{MakesOnly, MakesSmall, form_fits}
use Rattle.cf_contents.proofs.Sizes.{AddsOne, size-one_more, size-more}
use Rattle.cf_graph.specs.Holders.{Holder, variable, parcel, in_mode}
use Rattle.cf_graph.specs.Edges.{Reference, held_by, degree, has}
use Rattle.cf_graph.specs.Flows.{cut_of}
use Rattle.cf_next.specs.declared.action.Action.{Action}
use Rattle.cf_next.specs.Stands.{item_of, Kind, of_block, of_handler, of_run, Frame, has_run}
use Rattle.cf_next.specs.Demands.{Demand, does, ends, returns, owes, spends, drops, calls, enters, closes}
use Rattle.cf_next.specs.Advance.{top_kind}
use Rattle.cf_next.specs.Next.{object_at, used_objects}
use Rattle.cf_model.specs.declared.entry.Entry.{Entry}
use Rattle.cf_model.specs.State.{Parts, State, start, stand_at, is_common, first_held}
use Rattle.cf_model.specs.Things.{Thing, thing_at}
use Rattle.cf_model.specs.Own.{present_of}
use Rattle.cf_model.specs.Deals.{Deal, answering, okay, with_used, thing_deal, with_thing, with_filter, change_unless_skipped, change_deal, with_item, thread_in, place_in, holds_at, held_at, stays_in_one, is_elsewhere, places_added, places_dropped, entering, leaving, add_deal, drop_deal, common_items, common_deal, signal_deal, every_place, invalidate_deal, wake_parts, stop_deal, observe_deal, forget_deal, deal_of}
use Rattle.cf_model.specs.Steps.{Step, Made, item_made, bound_if, bind_step, retain_step, release_step, statement_step, claim_step, pack_step, packed_holder, start_all, spend_if, fired, fire, fire_if, close_step, bindings_of, depth_of, step_of, step_finals, finals_of, edges_after, frames_at, demanded, acted, done_by}
use Rattle.cf_model.specs.Journals.{makes_line, after_action, state_from, After}
use Rattle.cf_model.specs.Bounds.{EntryAdds, AreFew}
use Rattle.cf_model.proofs.Entries.{ActionView, is_tick, is_stall, is_step, action_view}
use Rattle.cf_model.proofs.Phases.{phase_case}

-- what a step does to parts, of a statement that makes an object or not: it finalises nothing by itself, makes one
-- object at most, and each collection has one member more at most
pub record PartsAdd (making : Bool) (st : State) (p : Parts) : Type 0 where
  pub finalised : p.finalised ≡ st.parts.finalised
  pub objects : (length p.objects ≡ length st.parts.objects)
      ⊎ ((making ≡ true) × (length p.objects ≡ length st.parts.objects + 1))
  pub sizes : (o : ℕ) → size_at (slice_get p.objects o) ≤ size_at (slice_get st.parts.objects o) + 1

same_objects : (making : Bool) (st : State) (p : Parts) → p.finalised ≡ st.parts.finalised
    → p.objects ≡ st.parts.objects
    → PartsAdd making st p
same_objects making st p finals e = record {
  finalised = finals;
  objects = inl (ap length e);
  sizes = λ o. rw e (omega arith);
}

changed_objects : (making : Bool) (st : State) (p : Parts) (b : Option ℕ) (change : Change) → AddsOne change
    → p.finalised ≡ st.parts.finalised → p.objects ≡ objects_after b change st.parts.objects → PartsAdd making st p
changed_objects making st p b change one finals e = record {
  finalised = finals;
  objects = inl (ap length e ∙ length-objects_after b change st.parts.objects);
  sizes = λ o. rw e (size-one_more b change st.parts.objects o one);
}

-- ---- deals

module _ (making : Bool) (st : State) where
  abbrev Adds : Deal → Type 0
  Adds deal = PartsAdd making st deal.parts

  adds_answer : (a : Answer) → Adds (answering st.parts a)
  adds_answer a = same_objects making st st.parts refl refl

  adds_used : (used : Option ℕ) (deal : ℕ → Deal) → ((i : ℕ) → Adds (deal i)) → Adds (with_used st.parts used deal)
  adds_used None deal h = adds_answer answers.Skip
  adds_used (Some i) deal h = h i

  adds_thing : (used : Option ℕ) (deal : ℕ → Thing → Deal) → ((i : ℕ) (x : Thing) → Adds (deal i x))
      → Adds (with_thing st.parts used deal)
  adds_thing None deal h = adds_answer answers.Skip
  adds_thing (Some i) deal h = by (thing_at st.parts i)
    where
      by : (x : Option Thing) → Adds (thing_deal st.parts i deal x)
      by None = adds_answer answers.Skip
      by (Some x) = h i x

  adds_filter : (v object : Option ℕ) (deal : Option ℕ → Deal) → ((q : Option ℕ) → Adds (deal q))
      → Adds (with_filter st.parts v object deal)
  adds_filter None object deal h = h None
  adds_filter (Some v) object deal h = adds_used object (λ q. deal (Some q)) (λ q. h (Some q))

  adds_either : (b : Bool) (x y : Deal) → Adds x → Adds y → Adds (cond b x y)
  adds_either true x y h k = h
  adds_either false x y h k = k

  adds_item : (i : ℕ) (valid : Bool) (item : Item) → PartsAdd making st (with_item st.parts i valid item)
  adds_item i valid item =
      changed_objects making st (with_item st.parts i valid item) (Some i) (in_item valid item) tt refl refl

  adds_signal : (i : ℕ) (valid : Bool) (item : Item) → Adds (signal_deal st.parts i valid item)
  adds_signal i true (source_item order on) = adds_item i true (source_item order true)
  adds_signal i false (source_item order on) = adds_answer answers.Invalid
  adds_signal i valid _ = adds_answer answers.Skip

  adds_invalidate : (s : Script) (i : ℕ) (x : Thing) → Adds (invalidate_deal s st i x)
  adds_invalidate s i x =
      adds_either x.valid
      (leaving (with_item st.parts i false x.item) (present_of (every_place s i st.edges) st.edges))
      (answering st.parts answers.Invalid) (adds_item i false x.item) (adds_answer answers.Invalid)

  adds_change : (answer : Answer) (b : Option ℕ) (change : Change) → AddsOne change
      → Adds (change_deal st.parts answer b change)
  adds_change answer None change one = adds_answer answer
  adds_change answer (Some b) change one = changed_objects making st _ (Some b) change one refl refl

  unless_skipped : (answer : Answer) (change : Change) → AddsOne change → AddsOne (change_unless_skipped answer change)
  unless_skipped answers.Skip change one = tt
  unless_skipped _ change one = one

  module _ (s : Script) (t : ℕ) where
    adds_add : (u : ℕ) (p : Place) (i : ℕ) (x : Thing) → Adds (add_deal s st u p i x)
    adds_add u p i x =
        adds_either (not x.valid) (answering st.parts answers.Invalid) _ (adds_answer answers.Invalid)
        (adds_either (stays_in_one (kind_of x.item) && is_elsewhere s u i st.edges)
        (answering st.parts answers.Elsewhere) _
        (adds_answer answers.Elsewhere)
        (adds_either (holds_at u i st.edges p) (answering st.parts answers.Present)
        (entering st.parts (held_at u i (places_added s u i st p))) (adds_answer answers.Present)
        (same_objects making st st.parts refl refl)))

    adds_drop : (u : ℕ) (p : Place) (i : ℕ) → Adds (drop_deal s st u p i)
    adds_drop u p i =
        adds_either (holds_at u i st.edges p)
        (leaving st.parts (present_of (held_at u i (places_dropped s u i st p)) st.edges))
        (answering st.parts answers.Absent) (same_objects making st st.parts refl refl) (adds_answer answers.Absent)

    adds_common : (u m : ℕ) → Adds (common_deal st u m)
    adds_common u m = by (is_common u st.parts.commons m)
      where
        by : (b : Bool) → Adds (cond b (answering st.parts answers.Present) (record (okay st.parts) {
          parts = record st.parts { commons = record { thread = u; mode = m } ∷ st.parts.commons };
          enters = map (held_by (in_mode u m)) (items_gained (λ i. has (in_mode u m) i st.edges) (common_items st u));
        }))
        by true = adds_answer answers.Present
        by false = same_objects making st _ refl refl

    adds_stop : (u : ℕ) → Adds (stop_deal st u)
    adds_stop u =
        adds_either (has_run (stand_at u st.stands).frames) (record (okay (wake_parts st.parts u)) { stops = Some u })
        (answering st.parts answers.Idle) (same_objects making st _ refl refl) (adds_answer answers.Idle)

    adds_deal : (x : Statement) (used : List (Option ℕ)) → Adds (deal_of s t st x used)
    adds_deal (forms.Add v u m) used =
        adds_thing (first_of used) (λ i x. with_used st.parts (thread_in t u) (λ w. add_deal s st w (place_in m) i x))
        (λ i x. adds_used (thread_in t u) (λ w. add_deal s st w (place_in m) i x) (λ w. adds_add w (place_in m) i x))
    adds_deal (forms.Drop v u m) used =
        adds_thing (first_of used) (λ i x. with_used st.parts (thread_in t u) (λ w. drop_deal s st w (place_in m) i))
        (λ i x. adds_used (thread_in t u) (λ w. drop_deal s st w (place_in m) i) (λ w. adds_drop w (place_in m) i))
    adds_deal (forms.Common u m) used = adds_used (thread_in t u) (λ w. common_deal st w m) (λ w. adds_common w m)
    adds_deal (forms.Signal v) used =
        adds_thing (first_of used) (λ i x. signal_deal st.parts i x.valid x.item) (λ i x. adds_signal i x.valid x.item)
    adds_deal (forms.Invalidate v) used =
        adds_thing (first_of used) (invalidate_deal s st) (λ i x. adds_invalidate s i x)
    adds_deal (forms.Wake u) used =
        adds_used (thread_in t u) (λ w. okay (wake_parts st.parts w)) (λ w. same_objects making st _ refl refl)
    adds_deal (forms.Stop u) used = adds_used (thread_in t u) (stop_deal st) adds_stop
    adds_deal (forms.Run m limit once) used = same_objects making st _ refl refl
    adds_deal (forms.Observe v k name x) used =
        adds_used (first_of used) (λ q. with_filter st.parts x (used_at used 1) (observe_deal st.parts k name q))
        (λ q. adds_filter x (used_at used 1) (observe_deal st.parts k name q)
        (λ z. same_objects making st _ refl refl))
    adds_deal (forms.Forget v name x) used =
        adds_used (first_of used) (λ q. with_filter st.parts x (used_at used 1) (forget_deal st.parts name q))
        (λ q. adds_filter x (used_at used 1) (forget_deal st.parts name q) (λ z. same_objects making st _ refl refl))
    adds_deal (forms.Post name info) used = same_objects making st _ refl refl
    adds_deal x used =
        let deed = deed_at s.classes st.parts.objects x used in
        let fits = form_fits s.classes x (numbered st.parts.objects (used_at used 0))
        (numbered st.parts.objects (used_at used 1)) (numbered st.parts.objects (used_at used 2)) in
        adds_change deed.answer (first_of used) (change_unless_skipped deed.answer deed.change)
        (unless_skipped deed.answer deed.change fits.one)

-- ---- what is bound

same_list : (st : State) (making : Bool) (p : Parts) → p.finalised ≡ st.parts.finalised
    → p.objects ≡ st.parts.objects ++ [] → PartsAdd making st p
same_list st making p finals e = same_objects making st p finals (e ∙ append-nil st.parts.objects)

adds_object : (st : State) (p : Parts) (ob : Object) → size_of ob.content ≡ 0 → p.finalised ≡ st.parts.finalised
    → p.objects ≡ st.parts.objects ++ ob ∷ [] → PartsAdd true st p
adds_object st p ob small finals e = record {
  finalised = finals;
  objects = inr (refl, ap length e ∙ length-append st.parts.objects (ob ∷ []));
  sizes = λ o. rw e (omega (arith, size-more st.parts.objects ob o small));
}

adds_origin : (making : Bool) (h : Holder) (st : State) (answer : Answer) (origin : Origin) → MakesOnly making origin
    → MakesSmall origin → PartsAdd making st (bind_step h st.parts (record { answer = answer; origin = origin })).parts
adds_origin making h st answer nowhere only small = same_list st making _ refl refl
adds_origin making h st answer (there o) only small = same_list st making _ refl refl
adds_origin true h st answer (fresh ob) only small = adds_object st _ ob small refl refl
adds_origin false h st answer (fresh ob) only small = absurd only

item_makes : (x : Statement) (m : Made) → item_made x ≡ Some m → makes_object x ≡ true
item_makes (forms.MakeSource v order handler info) m e = refl
item_makes (forms.MakeTimer v first interval handler info) m e = refl
item_makes (forms.MakeObserver v mask repeats order handler info) m e = refl
item_makes x m e = absurd cc

adds_bound : (s : Script) (h : Holder) (st : State) (x : Statement) (used : List (Option ℕ)) (made : Option Made)
    → item_made x ≡ made → PartsAdd (makes_object x) st (bind_step h st.parts (bound_if s st.parts x used made)).parts
adds_bound s h st x used (Some m) e =
    let ob : Object = record {
      class = class_of m.item;
      content = item_content m.handler
          (first_of used) true m.item;
    } in
    subst (λ (b : Bool). PartsAdd b st (bind_step h st.parts (bound_if s st.parts x used (Some m))).parts)
    (sym (item_makes x m e)) (adds_object st _ ob refl refl refl)
adds_bound s h st x used None e =
    let deed = deed_at s.classes st.parts.objects x used in
    let fits = form_fits s.classes x (numbered st.parts.objects (used_at used 0))
    (numbered st.parts.objects (used_at used 1)) (numbered st.parts.objects (used_at used 2)) in
    adds_origin (makes_object x) h st deed.answer deed.origin fits.only fits.small

-- ---- steps

module _ (s : Script) (t : ℕ) (st : State) where
  nothing : (making : Bool) → PartsAdd making st st.parts
  nothing making = same_objects making st st.parts refl refl

  adds_statement : (d : ℕ) (x : Statement) (used : List (Option ℕ)) (ownership : Ownership)
      → PartsAdd (makes_object x) st (statement_step s t d st x used ownership).parts
  adds_statement d x used Keeps = adds_deal (makes_object x) st s t x used
  adds_statement d x used (Binds v) = adds_bound s (variable t d v) st x used (item_made x) refl
  adds_statement d x used (Retains v) = by (first_of used)
    where
      by : (q : Option ℕ) → PartsAdd (makes_object x) st (retain_step (variable t d v) st q).parts
      by None = nothing (makes_object x)
      by (Some o) = nothing (makes_object x)
  adds_statement d x used (Releases v) = by (first_of used)
    where
      by : (q : Option ℕ) → PartsAdd (makes_object x) st (release_step t (variable t d v) st q).parts
      by None = nothing (makes_object x)
      by (Some o) = nothing (makes_object x)

  adds_line : (fs : List Frame) (x : BlockLine)
      → PartsAdd (makes_line (Some (does x))) st (step_of s t st fs (does x)).parts
  adds_line fs (begins v) = nothing false
  adds_line fs (claims k v) = by (first_held (parcel t k) st.edges)
    where
      by : (q : Option ℕ) → PartsAdd false st (claim_step st (parcel t k) q (variable t (depth_of fs) v)).parts
      by None = nothing false
      by (Some o) = nothing false
  adds_line fs (packs u k v) = by (object_at (bindings_of fs) v)
    where
      by : (q : Option ℕ) → PartsAdd false st (pack_step t st (packed_holder t (depth_of fs) v) q (parcel u k)).parts
      by None = nothing false
      by (Some o) = nothing false
  adds_line fs (says x) = adds_statement (depth_of fs) x (used_objects (bindings_of fs) (says x)) (ownership_of x)

  adds_end : (b : Bool) → PartsAdd false st (cond b (record st.parts { flags = start_all st.parts.flags }) st.parts)
  adds_end true = same_objects false st _ refl refl
  adds_end false = nothing false

  adds_spend : (i : ℕ) (x : Option Thing) → PartsAdd false st (spend_if s st i x).parts
  adds_spend i None = nothing false
  adds_spend i (Some x) =
      adds_either false st x.valid (invalidate_deal s st i x) (okay st.parts) (adds_invalidate false st s i x)
      (nothing false)

  adds_fire : (item : Option ℕ) → PartsAdd false st (fire_if st.parts item)
  adds_fire None = nothing false
  adds_fire (Some i) = by (thing_at st.parts i)
    where
      by : (x : Option Thing) → PartsAdd false st (fire st.parts i x)
      by None = nothing false
      by (Some x) = adds_item false st i x.valid (fired st.parts.time x.item)

  adds_close : (k : Kind) → PartsAdd false st (close_step st k).parts
  adds_close of_block = nothing false
  adds_close (of_handler k) = nothing false
  adds_close (of_run r) = nothing false

  adds_demand : (fs : List Frame) (d : Demand) → PartsAdd (makes_line (Some d)) st (step_of s t st fs d).parts
  adds_demand fs (does x) = adds_line fs x
  adds_demand fs ends = adds_end (t == 0)
  adds_demand fs returns = nothing false
  adds_demand fs (owes p) = nothing false
  adds_demand fs (spends i) = adds_spend i (thing_at st.parts i)
  adds_demand fs (drops b k p) = same_objects false st _ refl refl
  adds_demand fs (calls k c) = adds_fire (item_of k)
  adds_demand fs (enters p) =
      phase_case (λ (x : Step). PartsAdd false st x.parts) st t p (top_kind fs) (record {
        woken = same_objects false st _ refl refl;
        due = nothing false;
        sleeps = λ d. same_objects false st _ refl refl;
        tests = λ r. nothing false;
        collects = λ l. nothing false;
      })
  adds_demand fs closes = adds_close (top_kind fs)

-- ---- entries

one_final : (cut : Option ℕ) (es : List Reference) → length (finals_of cut es) ≤ 1
one_final None es = omega arith
one_final (Some o) es = by (degree o es == 0)
  where
    by : (b : Bool) → length (cond b (o ∷ []) []) ≤ 1
    by true = omega arith
    by false = omega arith

no_entry : (s : Script) (t : ℕ) (st : State) → EntryAdds s t st st
no_entry s t st = record { objects = inl refl; finalised = omega arith; sizes = λ o. omega arith }

step_adds : (s : Script) (t : ℕ) (st : State) (d : Demand) → demanded s st t ≡ Some d
    → EntryAdds s t st (done_by s t st d)
step_adds s t st d e =
    let step = step_of s t st (frames_at t st) d in
    let parts = adds_demand s t st (frames_at t st) d in
    record {
      objects = subst
          (λ (x : Option Demand). (length step.parts.objects ≡ length st.parts.objects) ⊎
          ((makes_line x ≡ true) × (length step.parts.objects ≡ length st.parts.objects + 1))) (sym e) parts.objects;
      finalised = omega (
        arith,
        length-append (step_finals step st) step.parts.finalised,
        one_final (cut_of step.flow) (edges_after step st),
        ap length parts.finalised,
      );
      sizes = parts.sizes;
    }

acted_adds : (s : Script) (t : ℕ) (st : State) (d : Option Demand) → demanded s st t ≡ d
    → EntryAdds s t st (acted s t st d)
acted_adds s t st None e = no_entry s t st
acted_adds s t st (Some d) e = step_adds s t st d e

pub entry_adds : (s : Script) (t : ℕ) (st : State) (a : Action) → EntryAdds s t st (after_action s t st a)
entry_adds s t st a = by a (action_view a)
  where
    by : (a : Action) → ActionView a → EntryAdds s t st (after_action s t st a)
    by _ (is_tick n) = record { objects = inl refl; finalised = omega arith; sizes = λ o. omega arith }
    by _ is_stall = no_entry s t st
    by a (is_step _ step) =
        subst (EntryAdds s t st) (sym (step.after s t st)) (acted_adds s t st (demanded s st t) refl)

-- ---- journals

one_object : (a m : ℕ) (B : Type 0) → (a ≡ m) ⊎ (B × (a ≡ m + 1)) → a ≤ m + 1
one_object a m B h = elim h [ inl e ↦ omega (arith, e) | inr e ↦ omega (arith, e.1) ]

few_objects_from : (s : Script) (st : State) (es : List Entry)
    → length (state_from s st es).parts.objects ≤ length st.parts.objects + length es
few_objects_from s st [] = omega arith
few_objects_from s st (e ∷ es) =
    let next = after_action s e.thread st e.action in
    omega (
      arith,
      one_object (length next.parts.objects) (length st.parts.objects) _ (entry_adds s e.thread st e.action).objects,
      few_objects_from s next es,
    )

few_finals_from : (s : Script) (st : State) (es : List Entry)
    → length (state_from s st es).parts.finalised ≤ length st.parts.finalised + length es
few_finals_from s st [] = omega arith
few_finals_from s st (e ∷ es) =
    omega (
      arith,
      (entry_adds s e.thread st e.action).finalised,
      few_finals_from s (after_action s e.thread st e.action) es,
    )

small_from : (s : Script) (st : State) (es : List Entry) (o : ℕ)
    → size_at (slice_get (state_from s st es).parts.objects o) ≤ size_at (slice_get st.parts.objects o) + length es
small_from s st [] o = omega arith
small_from s st (e ∷ es) o =
    omega (arith, (entry_adds s e.thread st e.action).sizes o, small_from s (after_action s e.thread st e.action) es o)

pub sizes_stay_small : (s : Script) (es : List Entry) (o : ℕ)
    → size_at (slice_get (After s es).parts.objects o) ≤ length es
sizes_stay_small s es o = omega (arith, small_from s (start s) es o)

pub bodies_may_grow : (s : Script) (es : List Entry) (bodies : List Held)
    → objects_of bodies ≡ (After s es).parts.objects
    → length es ≤ 4000000 → MayGrow bodies
bodies_may_grow s es bodies same few o =
    let size = size_at (slice_get (After s es).parts.objects o) in
    let below : size + 1 < 2147483648 = omega (arith, sizes_stay_small s es o, few) in
    rw same below

pub are_few : (s : Script) (es : List Entry) → AreFew s es
are_few s es = record {
  objects = omega (arith, few_objects_from s (start s) es);
  finalised = omega (arith, few_finals_from s (start s) es);
  sizes = sizes_stay_small s es;
  grow = bodies_may_grow s es;
}
