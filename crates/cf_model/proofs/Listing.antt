-- The list of objects to which an entry adds references, and how long it is at most.
use Rattle.std.proofs.Common.{◌≡◌, ℕ, ◌+◌, ◌≤◌, Bool, true, false, cond, List, [], ◌∷◌, ◌++◌, length, map, Option, Some, None, refl, ap, subst, arith, length-append}
use Rattle.std.specs.Prelude.{slice_get, not, ◌&&◌, filter}
use Rattle.std.proofs.lemmas.List.{length-map}
use Rattle.std.proofs.lemmas.List.FromFn.{length-range_with_len}
use Rattle.cf_ids.specs.declared.answer.Answer.{Answer}
use Rattle.cf_ids.specs.declared.answer.Answer.TheVariants as answers
use Rattle.rl_base.specs.declared.places.Place.{Place}
use Rattle.rl_base.specs.declared.places.Place.TheVariants.{Common, Mode}
use Rattle.rl_base.specs.Modes.{places, places_entered, items_gained}
use Rattle.rl_turn.specs.declared.phases.Phase.{Phase}
use Rattle.cf_syntax.specs.declared.script.Script.{Script}
use Rattle.cf_syntax.specs.declared.statement.Statement.{Statement}
use Rattle.cf_syntax.specs.declared.statement.Statement.TheVariants as forms
use Rattle.cf_syntax.specs.declared.mention.Ownership.{Ownership}
use Rattle.cf_syntax.specs.declared.mention.Ownership.TheVariants.{Keeps, Binds, Retains, Releases}
use Rattle.cf_syntax.specs.Mentions.{ownership_of, used_at, first_of}
use Rattle.cf_syntax.specs.BlockLines.{BlockLine, begins, claims, says, packs}
use Rattle.cf_contents.specs.Items.{Item, source_item, kind_of, class_of}
use Rattle.cf_contents.specs.Contents.{Object, item_content, times, present, slots_in}
use Rattle.cf_contents.specs.Deeds.{Origin, nowhere, fresh, there, Change, deed_at, taken_in}
use Rattle.cf_contents.specs.Keys.{numbered}
use Rattle.cf_contents.proofs.SlotLaws.{MakesEmpty, named_in}
use Rattle.cf_contents.proofs.FormLaws.{form_fits}
use Rattle.cf_contents.proofs.Sizes.{taken_few}
use Rattle.cf_graph.specs.Holders.{Holder, variable, callout, owed, parcel, slot, in_mode, in_common}
use Rattle.cf_graph.specs.Edges.{Reference, held_by, held_if, degree, has}
use Rattle.cf_graph.specs.Flows.{Flow, grows, shrinks, gained_by, gains}
use Rattle.cf_next.specs.declared.action.Action.{Action}
use Rattle.cf_next.specs.Stands.{item_of, Kind, of_block, of_handler, of_run, Frame, has_run}
use Rattle.cf_next.specs.Demands.{Demand, does, ends, returns, owes, spends, drops, calls, enters, closes}
use Rattle.cf_next.specs.Advance.{top_kind}
use Rattle.cf_next.specs.Next.{object_at, used_objects}
use Rattle.cf_model.specs.declared.entry.Entry.{Entry}
use Rattle.cf_model.specs.State.{State, stand_at, modes_of, objects_of, is_common, first_held}
use Rattle.cf_model.specs.Things.{Thing, thing_at}
use Rattle.cf_model.specs.Own.{own_reference, present_of}
use Rattle.cf_model.specs.Deals.{Deal, answering, okay, with_used, thing_deal, with_thing, with_filter, change_unless_skipped, change_deal, with_item, thread_in, place_in, holds_at, held_at, common_modes, stays_in_one, is_elsewhere, places_added, places_dropped, entering, leaving, add_deal, drop_deal, common_items, common_deal, signal_deal, every_place, invalidate_deal, wake_parts, stop_deal, observe_deal, forget_deal, deal_of}
use Rattle.cf_model.specs.Steps.{Step, Made, item_made, bound_if, found, bind_step, retain_step, cut_flow, release_step, statement_step, claim_step, pack_step, packed_holder, spend_if, phase_step, close_step, bindings_of, depth_of, step_of, frames_at, demanded}
use Rattle.cf_model.specs.Journals.{After}
use Rattle.cf_model.specs.Flowing.{flow_if, flow_in}
use Rattle.cf_model.specs.Bounds.{GainsAreListed}
use Rattle.cf_model.proofs.Entries.{ActionView, is_tick, is_stall, is_step, action_view}
use Rattle.cf_model.proofs.Phases.{phase_case}

-- how often an object stands in the list is how often a reference to it is added
listed : (o : ℕ) (rs : List Reference) → degree o rs ≡ times o (map (λ (r : Reference). r.object) rs)
listed o [] = refl
listed o (r ∷ rs) = omega (arith, listed o rs)

pub gains_listed : (o : ℕ) (f : Flow) → gains o f ≡ times o (gained_by f)
gains_listed o (grows ins ms) = listed o ins
gains_listed o (shrinks r) = refl

-- ---- places

filter_most : {A : Type 0} (p : A → Bool) (xs : List A) → length (filter p xs) ≤ length xs
filter_most p [] = omega arith
filter_most p (x ∷ xs) = by (p x) (filter_most p xs)
  where
    by : (b : Bool) → length (filter p xs) ≤ length xs
        → length (cond b (x ∷ filter p xs) (filter p xs)) ≤ length (x ∷ xs)
    by true h = omega (arith, h)
    by false h = omega (arith, h)

held_length : (u i : ℕ) (ps : List Place) → length (held_at u i ps) ≡ length ps
held_length u i [] = refl
held_length u i (p ∷ ps) = omega (arith, held_length u i ps)

modes_length : (ms : List ℕ) → length (map Mode ms) ≡ length ms
modes_length [] = refl
modes_length (m ∷ ms) = omega (arith, modes_length ms)

items_length : (h : Holder) (xs : List ℕ) → length (map (held_by h) xs) ≡ length xs
items_length h [] = refl
items_length h (x ∷ xs) = omega (arith, items_length h xs)

added_length : (s : Script) (u i : ℕ) (st : State) (p : Place)
    → length (held_at u i (places_added s u i st p)) ≤ length s.modes + 1
added_length s u i st Common =
    let cm = common_modes s u st.parts in
    let few : length cm ≤ length (modes_of s) = filter_most (is_common u st.parts.commons) (modes_of s) in
    let modes : length (modes_of s) ≡ length s.modes = length-range_with_len 0 (length s.modes) in
    omega (
      arith,
      held_length u i (places_entered (holds_at u i st.edges) cm),
      filter_most (λ p. not (holds_at u i st.edges p)) (places cm),
      modes_length cm,
      few,
      modes,
    )
added_length s u i st (Mode m) = omega (arith, held_length u i (Mode m ∷ []))

gained_length : (u m : ℕ) (st : State)
    → length (map (held_by (in_mode u m)) (items_gained (λ i. has (in_mode u m) i st.edges) (common_items st u)))
    ≤ length st.parts.objects
gained_length u m st =
    let items = common_items st u in
    let all : length (objects_of st.parts) ≡ length st.parts.objects = length-range_with_len 0
    (length st.parts.objects) in
    omega (
      arith,
      items_length (in_mode u m) (items_gained (λ i. has (in_mode u m) i st.edges) items),
      filter_most (λ i. not (has (in_mode u m) i st.edges)) items,
      filter_most (λ i. has (in_common u) i st.edges) (objects_of st.parts),
      all,
    )

named_few : (answer : Answer) (change : Change) → length (named_in change) ≤ 2
    → length (named_in (change_unless_skipped answer change)) ≤ 2
named_few answers.Skip change few = omega arith
named_few _ change few = few

module _ (s : Script) (t : ℕ) (st : State) where
  abbrev most : ℕ
  most = length s.modes + length st.parts.objects + 2

  -- ---- deals

  abbrev Few : Deal → Type 0
  Few deal = length deal.enters ≤ most

  few_used : (used : Option ℕ) (deal : ℕ → Deal) → ((i : ℕ) → Few (deal i)) → Few (with_used st.parts used deal)
  few_used None deal h = omega arith
  few_used (Some i) deal h = h i

  few_thing : (used : Option ℕ) (deal : ℕ → Thing → Deal) → ((i : ℕ) (x : Thing) → Few (deal i x))
      → Few (with_thing st.parts used deal)
  few_thing None deal h = omega arith
  few_thing (Some i) deal h = by (thing_at st.parts i)
    where
      by : (x : Option Thing) → Few (thing_deal st.parts i deal x)
      by None = omega arith
      by (Some x) = h i x

  few_filter : (v object : Option ℕ) (deal : Option ℕ → Deal) → ((q : Option ℕ) → Few (deal q))
      → Few (with_filter st.parts v object deal)
  few_filter None object deal h = h None
  few_filter (Some v) object deal h = few_used object (λ q. deal (Some q)) (λ q. h (Some q))

  few_either : (b : Bool) (x y : Deal) → Few x → Few y → Few (cond b x y)
  few_either true x y h k = h
  few_either false x y h k = k

  few_signal : (i : ℕ) (valid : Bool) (item : Item) → Few (signal_deal st.parts i valid item)
  few_signal i true (source_item order on) = omega arith
  few_signal i false (source_item order on) = omega arith
  few_signal i valid _ = omega arith

  few_invalidate : (i : ℕ) (x : Thing) → Few (invalidate_deal s st i x)
  few_invalidate i x =
      few_either x.valid (leaving (with_item st.parts i false x.item) (present_of (every_place s i st.edges) st.edges))
      (answering st.parts answers.Invalid) (omega arith) (omega arith)

  few_change : (answer : Answer) (b : Option ℕ) (change : Change) → length (named_in change) ≤ 2
      → Few (change_deal st.parts answer b change)
  few_change answer None change few = omega arith
  few_change answer (Some b) change few =
      let ob = slice_get st.parts.objects b in
      omega (arith, items_length (slot b) (taken_in ob change), taken_few change ob, few)

  few_add : (u : ℕ) (p : Place) (i : ℕ) (x : Thing) → Few (add_deal s st u p i x)
  few_add u p i x =
      few_either (not x.valid) (answering st.parts answers.Invalid) _ (omega arith)
      (few_either (stays_in_one (kind_of x.item) && is_elsewhere s u i st.edges)
      (answering st.parts answers.Elsewhere) _ (omega arith)
      (few_either (holds_at u i st.edges p) (answering st.parts answers.Present)
      (entering st.parts (held_at u i (places_added s u i st p))) (omega arith)
      (omega (arith, added_length s u i st p))))

  few_drop : (u : ℕ) (p : Place) (i : ℕ) → Few (drop_deal s st u p i)
  few_drop u p i =
      few_either (holds_at u i st.edges p)
      (leaving st.parts (present_of (held_at u i (places_dropped s u i st p)) st.edges))
      (answering st.parts answers.Absent) (omega arith) (omega arith)

  few_common : (u m : ℕ) → Few (common_deal st u m)
  few_common u m = by (is_common u st.parts.commons m)
    where
      by : (b : Bool) → Few (cond b (answering st.parts answers.Present) (record (okay st.parts) {
        parts = record st.parts { commons = record { thread = u; mode = m } ∷ st.parts.commons };
        enters = map (held_by (in_mode u m)) (items_gained (λ i. has (in_mode u m) i st.edges) (common_items st u));
      }))
      by true = omega arith
      by false = omega (arith, gained_length u m st)

  few_stop : (u : ℕ) → Few (stop_deal st u)
  few_stop u =
      few_either (has_run (stand_at u st.stands).frames) (record (okay (wake_parts st.parts u)) { stops = Some u })
      (answering st.parts answers.Idle) (omega arith) (omega arith)

  few_deal : (x : Statement) (used : List (Option ℕ)) → Few (deal_of s t st x used)
  few_deal (forms.Add v u m) used =
      few_thing (first_of used) (λ i x. with_used st.parts (thread_in t u) (λ w. add_deal s st w (place_in m) i x))
      (λ i x. few_used (thread_in t u) (λ w. add_deal s st w (place_in m) i x) (λ w. few_add w (place_in m) i x))
  few_deal (forms.Drop v u m) used =
      few_thing (first_of used) (λ i x. with_used st.parts (thread_in t u) (λ w. drop_deal s st w (place_in m) i))
      (λ i x. few_used (thread_in t u) (λ w. drop_deal s st w (place_in m) i) (λ w. few_drop w (place_in m) i))
  few_deal (forms.Common u m) used = few_used (thread_in t u) (λ w. common_deal st w m) (λ w. few_common w m)
  few_deal (forms.Signal v) used =
      few_thing (first_of used) (λ i x. signal_deal st.parts i x.valid x.item) (λ i x. few_signal i x.valid x.item)
  few_deal (forms.Invalidate v) used = few_thing (first_of used) (invalidate_deal s st) few_invalidate
  few_deal (forms.Wake u) used = few_used (thread_in t u) (λ w. okay (wake_parts st.parts w)) (λ w. omega arith)
  few_deal (forms.Stop u) used = few_used (thread_in t u) (stop_deal st) few_stop
  few_deal (forms.Run m limit once) used = omega arith
  few_deal (forms.Observe v k name x) used =
      few_used (first_of used) (λ q. with_filter st.parts x (used_at used 1) (observe_deal st.parts k name q))
      (λ q. few_filter x (used_at used 1) (observe_deal st.parts k name q) (λ z. omega arith))
  few_deal (forms.Forget v name x) used =
      few_used (first_of used) (λ q. with_filter st.parts x (used_at used 1) (forget_deal st.parts name q))
      (λ q. few_filter x (used_at used 1) (forget_deal st.parts name q) (λ z. omega arith))
  few_deal (forms.Post name info) used = omega arith
  few_deal x used =
      let deed = deed_at s.classes st.parts.objects x used in
      let fits = form_fits s.classes x (numbered st.parts.objects (used_at used 0))
      (numbered st.parts.objects (used_at used 1)) (numbered st.parts.objects (used_at used 2)) in
      few_change deed.answer (first_of used) (change_unless_skipped deed.answer deed.change)
      (named_few deed.answer deed.change fits.used.few)

  -- ---- steps

  abbrev FewBy : Flow → Type 0
  FewBy f = length (gained_by f) ≤ most

  entered : (f : List Reference) → length (map (λ (r : Reference). r.object) f) ≡ length f
  entered f = length-map f (λ (r : Reference). r.object)

  if_few : (h : Holder) (object : Option ℕ) → length (held_if h object) ≤ 1
  if_few h None = omega arith
  if_few h (Some x) = omega arith

  bind_few : (h : Holder) (answer : Answer) (origin : Origin)
      → ((ob : Object) → origin ≡ fresh ob → length (slots_in ob.content) ≤ 1)
      → FewBy (bind_step h st.parts (record { answer = answer; origin = origin })).flow
  bind_few h answer nowhere few = omega arith
  bind_few h answer (fresh ob) few =
      let n = length st.parts.objects in
      let slots = map (held_by (slot n)) (slots_in ob.content) in
      omega (arith, entered (held_by h n ∷ slots), items_length (slot n) (slots_in ob.content), few ob refl)
  bind_few h answer (there x) few =
      let object = found st.parts (there x) in
      omega (arith, entered (held_if h object ++ []), length-append (held_if h object) [], if_few h object)

  info_few : (info : Option ℕ) → length (present (info ∷ [])) ≤ 1
  info_few None = omega arith
  info_few (Some x) = omega arith

  object_is : (a b : Object) → fresh a ≡ fresh b → a ≡ b
  object_is a b e = cc

  bound_few : (h : Holder) (x : Statement) (used : List (Option ℕ)) (made : Option Made)
      → FewBy (bind_step h st.parts (bound_if s st.parts x used made)).flow
  bound_few h x used (Some m) =
      let made : Object = record {
        class = class_of m.item;
        content = item_content m.handler
            (first_of used) true m.item;
      } in
      bind_few h answers.Skip (fresh made)
      (λ ob e. subst (λ (b : Object). length (slots_in b.content) ≤ 1) (object_is made ob e)
      (info_few (first_of used)))
  bound_few h x used None =
      let deed = deed_at s.classes st.parts.objects x used in
      let fits = form_fits s.classes x (numbered st.parts.objects (used_at used 0))
      (numbered st.parts.objects (used_at used 1)) (numbered st.parts.objects (used_at used 2)) in
      bind_few h deed.answer deed.origin
      (λ ob e.
      let none : slots_in ob.content ≡ [] = subst MakesEmpty e fits.makes in
      let z : length (slots_in ob.content) ≡ 0 = ap length none in
      omega (arith, z))

  cut_few : (q : Option Reference) → FewBy (cut_flow q)
  cut_few None = omega arith
  cut_few (Some r) = omega arith

  statement_few : (d : ℕ) (x : Statement) (used : List (Option ℕ)) (ownership : Ownership)
      → FewBy (statement_step s t d st x used ownership).flow
  statement_few d x used Keeps = let deal = deal_of s t st x used in omega (
    arith,
    entered deal.enters,
    few_deal x used,
  )
  statement_few d x used (Binds v) = bound_few (variable t d v) x used (item_made x)
  statement_few d x used (Retains v) = by (first_of used)
    where
      by : (q : Option ℕ) → FewBy (retain_step (variable t d v) st q).flow
      by None = omega arith
      by (Some p) = omega arith
  statement_few d x used (Releases v) = by (first_of used)
    where
      by : (q : Option ℕ) → FewBy (release_step t (variable t d v) st q).flow
      by None = omega arith
      by (Some p) = cut_few (own_reference t (variable t d v) p st.edges)

  line_few : (fs : List Frame) (x : BlockLine) → FewBy (step_of s t st fs (does x)).flow
  line_few fs (begins v) = omega arith
  line_few fs (claims k v) = by (first_held (parcel t k) st.edges)
    where
      by : (q : Option ℕ) → FewBy (claim_step st (parcel t k) q (variable t (depth_of fs) v)).flow
      by None = omega arith
      by (Some p) = omega arith
  line_few fs (packs u k v) = by (object_at (bindings_of fs) v)
    where
      by : (q : Option ℕ) → FewBy (pack_step t st (packed_holder t (depth_of fs) v) q (parcel u k)).flow
      by None = omega arith
      by (Some p) = omega arith
  line_few fs (says x) = statement_few (depth_of fs) x (used_objects (bindings_of fs) (says x)) (ownership_of x)

  phase_few : (p : Phase) (k : Kind) → FewBy (phase_step st t p k).flow
  phase_few p k =
      phase_case (λ (x : Step). FewBy x.flow) st t p k (record {
        woken = omega arith;
        due = omega arith;
        sleeps = λ d. omega arith;
        tests = λ r. omega arith;
        collects = λ l. omega arith;
      })

  close_few : (k : Kind) → FewBy (close_step st k).flow
  close_few of_block = omega arith
  close_few (of_handler k) = omega arith
  close_few (of_run r) = omega arith

  spend_few : (i : ℕ) (x : Option Thing) → Few (spend_if s st i x)
  spend_few i None = omega arith
  spend_few i (Some x) =
      few_either x.valid (invalidate_deal s st i x) (okay st.parts) (few_invalidate i x) (omega arith)

  demand_few : (fs : List Frame) (d : Demand) → FewBy (step_of s t st fs d).flow
  demand_few fs (does x) = line_few fs x
  demand_few fs ends = omega arith
  demand_few fs returns = omega arith
  demand_few fs (owes p) = cut_few (own_reference t (owed t) p st.edges)
  demand_few fs (spends i) =
      let deal = spend_if s st i (thing_at st.parts i) in omega (
        arith,
        entered deal.enters,
        spend_few i (thing_at st.parts i),
      )
  demand_few fs (drops b k p) = omega arith
  demand_few fs (calls k c) =
      let info = held_if (variable t (length fs) 0) c.info in
      let item = held_if (callout t (length fs)) (item_of k) in
      omega (
        arith,
        entered (info ++ item),
        length-append info item,
        if_few (variable t (length fs) 0) c.info,
        if_few (callout t (length fs)) (item_of k),
      )
  demand_few fs (enters p) = phase_few p (top_kind fs)
  demand_few fs closes = close_few (top_kind fs)

  flow_few : (d : Option Demand) → FewBy (flow_if s t st d)
  flow_few None = omega arith
  flow_few (Some d) = demand_few (frames_at t st) d

  pub few_listed : (a : Action) → FewBy (flow_in s t st a)
  few_listed a = by a (action_view a)
    where
      by : (a : Action) → ActionView a → FewBy (flow_in s t st a)
      by _ (is_tick n) = omega arith
      by _ is_stall = omega arith
      by a (is_step _ step) = rw (step.flow s t st) (flow_few (demanded s st t))

pub gains_are_listed : (s : Script) (es : List Entry) (e : Entry) → GainsAreListed s es e
gains_are_listed s es e = record {
  listed = λ o. gains_listed o (flow_in s e.thread (After s es) e.action);
  few = few_listed s e.thread (After s es) e.action;
}
