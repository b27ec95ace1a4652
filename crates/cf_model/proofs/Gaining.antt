-- At most so many references are added to one object by one entry as there can be modes, and one more.
use Rattle.std.proofs.Common.{◌≡◌, ℕ, zero, suc, ◌+◌, ◌≤◌, Bool, true, false, cond, List, [], ◌∷◌, length, map, Option, Some, None, eqb, refl, ap, subst, arith}
use Rattle.std.specs.Prelude.{filter, slice_get, not, nat_le, ◌&&◌}
use Rattle.std.specs.List.{range_with_len}
use Rattle.std.proofs.lemmas.List.FromFn.{length-range_with_len}
use Rattle.std.proofs.lemmas.Bool.Decides.{nat_tests}
use Rattle.cf_ids.specs.declared.limits.TheConstants.{MODES}
use Rattle.cf_ids.specs.declared.answer.Answer.{Answer}
use Rattle.cf_ids.specs.declared.answer.Answer.TheVariants as answers
use Rattle.rl_base.specs.declared.places.Place.{Place}
use Rattle.rl_base.specs.declared.places.Place.TheVariants.{Common, Mode}
use Rattle.rl_base.specs.Modes.{places, places_entered, items_gained}
use Rattle.rl_turn.specs.declared.phases.Phase.{Phase}
use Rattle.cf_syntax.specs.declared.script.Script.{Script}
use Rattle.cf_syntax.specs.declared.statement.Statement.{Statement}
use Rattle.cf_syntax.specs.declared.statement.Statement.TheVariants as forms
use Rattle.cf_syntax.specs.declared.mention.Ownership.{Ownership}
use Rattle.cf_syntax.specs.declared.mention.Ownership.TheVariants.{Keeps, Binds, Retains, Releases}
use Rattle.cf_syntax.specs.Mentions.{ownership_of, used_at, first_of}
use Rattle.cf_syntax.specs.BlockLines.{BlockLine, begins, claims, says, packs}
use Rattle.cf_contents.specs.Items.{Item, source_item, kind_of, class_of}
use Rattle.cf_contents.specs.Contents.{Object, item_content, times, present, slots_in}
use Rattle.cf_contents.specs.Deeds.{Origin, nowhere, fresh, there, Change, deed_at, taken_in}
use Rattle.cf_contents.specs.Keys.{numbered}
use Rattle.cf_contents.proofs.SlotLaws.{MakesEmpty, named_in, taken_most}
use Rattle.cf_contents.proofs.FormLaws.{form_fits}
use Rattle.cf_graph.specs.Holders.{Holder, variable, callout, owed, parcel, slot, in_mode, in_common}
use Rattle.cf_graph.specs.Edges.{Reference, held_by, held_if, counted, degree, leading_to, has}
use Rattle.cf_graph.specs.Flows.{gains}
use Rattle.cf_graph.proofs.Counts.{weigh-append}
use Rattle.cf_next.specs.declared.action.Action.{Action}
use Rattle.cf_next.specs.Stands.{item_of, Kind, of_block, of_handler, of_run, Frame, has_run}
use Rattle.cf_next.specs.Demands.{Demand, does, ends, returns, owes, spends, drops, calls, enters, closes}
use Rattle.cf_next.specs.Advance.{top_kind}
use Rattle.cf_next.specs.Next.{object_at, used_objects}
use Rattle.cf_model.proofs.Phases.{phase_case}
use Rattle.cf_model.specs.State.{Parts, State, stand_at, modes_of, objects_of, is_common, first_held}
use Rattle.cf_model.specs.Things.{Thing, thing_at}
use Rattle.cf_model.specs.Own.{own_reference, present_of}
use Rattle.cf_model.specs.Deals.{Deal, answering, okay, with_used, thing_deal, with_thing, with_filter, change_unless_skipped, change_deal, with_item, thread_in, place_in, holds_at, held_at, common_modes, stays_in_one, is_elsewhere, places_added, places_dropped, entering, leaving, add_deal, drop_deal, common_items, common_deal, signal_deal, every_place, invalidate_deal, wake_parts, stop_deal, observe_deal, forget_deal, deal_of}
use Rattle.cf_model.specs.Steps.{Step, Made, item_made, bound_if, found, bind_step, retain_step, cut_flow, release_step, statement_step, claim_step, pack_step, packed_holder, spend_if, phase_step, close_step, bindings_of, depth_of, step_of, frames_at, demanded}
use Rattle.cf_model.specs.Flowing.{flow_if, flow_in}
use Rattle.cf_model.proofs.Entries.{ActionView, is_tick, is_stall, is_step, action_view}
use Rattle.cf_model.proofs.Places.{held_objects}

one_most : (b : Bool) → counted b ≤ 1
one_most true = omega arith
one_most false = omega arith

held_most : (o u i : ℕ) (ps : List Place) → degree o (held_at u i ps) ≤ length ps
held_most o u i [] = omega arith
held_most o u i (p ∷ ps) = omega (arith, one_most (eqb i o), held_most o u i ps)

filter_most : {A : Type 0} (p : A → Bool) (xs : List A) → length (filter p xs) ≤ length xs
filter_most p [] = omega arith
filter_most p (x ∷ xs) = by (p x) (filter_most p xs)
  where
    by : (b : Bool) → length (filter p xs) ≤ length xs
        → length (cond b (x ∷ filter p xs) (filter p xs)) ≤ suc (length xs)
    by true h = omega (arith, h)
    by false h = omega (arith, h)

length_modes : (ms : List ℕ) → length (map Mode ms) ≡ length ms
length_modes [] = refl
length_modes (m ∷ ms) = ap suc (length_modes ms)

added_most : (s : Script) (u i : ℕ) (st : State) (p : Place) (o : ℕ)
    → degree o (held_at u i (places_added s u i st p)) ≤ length s.modes + 1
added_most s u i st Common o =
    let cm = common_modes s u st.parts in
    let few : length cm ≤ length (modes_of s) = filter_most (is_common u st.parts.commons) (modes_of s) in
    let modes : length (modes_of s) ≡ length s.modes = length-range_with_len 0 (length s.modes) in
    omega (arith, held_most o u i (places_entered (holds_at u i st.edges) cm), filter_most (λ p. not (holds_at u i st.edges p)) (places cm), length_modes cm, few, modes)
added_most s u i st (Mode m) o = omega (arith, held_most o u i (Mode m ∷ []))

times_range : (o a n : ℕ) → times o (range_with_len a n) ≤ counted (nat_le a o)
times_range o a zero = omega arith
times_range o a (suc n) = by (times o (range_with_len (a + 1) n)) (times_range o (a + 1) n)
  where
    by : (m : ℕ) → m ≤ counted (nat_le (a + 1) o) → counted (eqb a o) + m ≤ counted (nat_le a o)
    by m h = grind (arith, nat_tests)

times_filter : (o : ℕ) (p : ℕ → Bool) (xs : List ℕ) → times o (filter p xs) ≤ times o xs
times_filter o p [] = omega arith
times_filter o p (x ∷ xs) = by (p x) (times_filter o p xs)
  where
    by : (b : Bool) → times o (filter p xs) ≤ times o xs
        → times o (cond b (x ∷ filter p xs) (filter p xs)) ≤ times o (x ∷ xs)
    by true h = omega (arith, h)
    by false h = omega (arith, h)

common_most : (u m : ℕ) (st : State) (o : ℕ)
    → degree o (map (held_by (in_mode u m)) (items_gained (λ i. has (in_mode u m) i st.edges) (common_items st u))) ≤ 1
common_most u m st o =
    let items = common_items st u in
    omega (
      arith,
      held_objects (in_mode u m) o (items_gained (λ i. has (in_mode u m) i st.edges) items),
      times_filter o (λ i. not (has (in_mode u m) i st.edges)) items,
      times_filter o (λ i. has (in_common u) i st.edges) (objects_of st.parts),
      times_range o 0 (length st.parts.objects),
      one_most (nat_le 0 o),
    )

-- ---- deals

abbrev Few : ℕ → Deal → Type 0
Few o deal = degree o deal.enters ≤ 1025

few_used : (o : ℕ) (p : Parts) (used : Option ℕ) (deal : ℕ → Deal) → ((i : ℕ) → Few o (deal i))
    → Few o (with_used p used deal)
few_used o p None deal h = omega arith
few_used o p (Some i) deal h = h i

few_thing : (o : ℕ) (p : Parts) (used : Option ℕ) (deal : ℕ → Thing → Deal) → ((i : ℕ) (x : Thing) → Few o (deal i x))
    → Few o (with_thing p used deal)
few_thing o p None deal h = omega arith
few_thing o p (Some i) deal h = by (thing_at p i)
  where
    by : (x : Option Thing) → Few o (thing_deal p i deal x)
    by None = omega arith
    by (Some x) = h i x

few_filter : (o : ℕ) (p : Parts) (v object : Option ℕ) (deal : Option ℕ → Deal) → ((q : Option ℕ) → Few o (deal q))
    → Few o (with_filter p v object deal)
few_filter o p None object deal h = h None
few_filter o p (Some v) object deal h = few_used o p object (λ q. deal (Some q)) (λ q. h (Some q))

few_either : (o : ℕ) (b : Bool) (x y : Deal) → Few o x → Few o y → Few o (cond b x y)
few_either o true x y h k = h
few_either o false x y h k = k

few_signal : (o : ℕ) (p : Parts) (i : ℕ) (valid : Bool) (item : Item) → Few o (signal_deal p i valid item)
few_signal o p i true (source_item order on) = omega arith
few_signal o p i false (source_item order on) = omega arith
few_signal o p i valid _ = omega arith

few_invalidate : (o : ℕ) (s : Script) (st : State) (i : ℕ) (x : Thing) → Few o (invalidate_deal s st i x)
few_invalidate o s st i x =
    few_either o x.valid (leaving (with_item st.parts i false x.item) (present_of (every_place s i st.edges) st.edges)) (answering st.parts answers.Invalid) (omega arith) (omega arith)

times_length : (o : ℕ) (xs : List ℕ) → times o xs ≤ length xs
times_length o [] = omega arith
times_length o (x ∷ xs) = omega (arith, one_most (eqb x o), times_length o xs)

few_change : (o : ℕ) (p : Parts) (answer : Answer) (b : Option ℕ) (change : Change) → length (named_in change) ≤ 2
    → Few o (change_deal p answer b change)
few_change o p answer None change few = omega arith
few_change o p answer (Some b) change few =
    let taken = taken_in (slice_get p.objects b) change in
    omega (arith, held_objects (slot b) o taken, taken_most o change (slice_get p.objects b), times_length o (named_in change), few)

few_named : (answer : Answer) (change : Change) → length (named_in change) ≤ 2
    → length (named_in (change_unless_skipped answer change)) ≤ 2
few_named answers.Skip change few = omega arith
few_named _ change few = few

deed_few : (s : Script) (st : State) (x : Statement) (used : List (Option ℕ))
    → length (named_in (deed_at s.classes st.parts.objects x used).change) ≤ 2
deed_few s st x used =
    (form_fits s.classes x (numbered st.parts.objects (used_at used 0)) (numbered st.parts.objects (used_at used 1)) (numbered st.parts.objects (used_at used 2))).used.few

module _ (s : Script) (t : ℕ) (st : State) (o : ℕ) (modes : length s.modes ≤ MODES) where
  few_add : (u : ℕ) (p : Place) (i : ℕ) (x : Thing) → Few o (add_deal s st u p i x)
  few_add u p i x =
      few_either o (not x.valid) (answering st.parts answers.Invalid) _ (omega arith)
      (few_either o (stays_in_one (kind_of x.item) && is_elsewhere s u i st.edges) (answering st.parts answers.Elsewhere) _ (omega arith)
      (few_either o (holds_at u i st.edges p) (answering st.parts answers.Present) (entering st.parts (held_at u i (places_added s u i st p))) (omega arith)
      (omega (arith, modes, added_most s u i st p o))))

  few_drop : (u : ℕ) (p : Place) (i : ℕ) → Few o (drop_deal s st u p i)
  few_drop u p i = few_either o (holds_at u i st.edges p) (leaving st.parts (present_of (held_at u i (places_dropped s u i st p)) st.edges)) (answering st.parts answers.Absent) (omega arith) (omega arith)

  few_common : (u m : ℕ) → Few o (common_deal st u m)
  few_common u m = by (is_common u st.parts.commons m)
    where
      by : (b : Bool)
          → Few o (cond b (answering st.parts answers.Present) (record (okay st.parts) { parts = record st.parts { commons = record { thread = u; mode = m } ∷ st.parts.commons }; enters = map (held_by (in_mode u m)) (items_gained (λ i. has (in_mode u m) i st.edges) (common_items st u)) }))
      by true = omega arith
      by false = omega (arith, common_most u m st o)

  few_stop : (u : ℕ) → Few o (stop_deal st u)
  few_stop u = few_either o (has_run (stand_at u st.stands).frames) (record (okay (wake_parts st.parts u)) { stops = Some u }) (answering st.parts answers.Idle) (omega arith) (omega arith)

  deal_few : (x : Statement) (used : List (Option ℕ)) → Few o (deal_of s t st x used)
  deal_few (forms.Add v u m) used = few_thing o st.parts (first_of used) (λ i x. with_used st.parts (thread_in t u) (λ w. add_deal s st w (place_in m) i x)) (λ i x. few_used o st.parts (thread_in t u) (λ w. add_deal s st w (place_in m) i x) (λ w. few_add w (place_in m) i x))
  deal_few (forms.Drop v u m) used = few_thing o st.parts (first_of used) (λ i x. with_used st.parts (thread_in t u) (λ w. drop_deal s st w (place_in m) i)) (λ i x. few_used o st.parts (thread_in t u) (λ w. drop_deal s st w (place_in m) i) (λ w. few_drop w (place_in m) i))
  deal_few (forms.Common u m) used = few_used o st.parts (thread_in t u) (λ w. common_deal st w m) (λ w. few_common w m)
  deal_few (forms.Signal v) used = few_thing o st.parts (first_of used) (λ i x. signal_deal st.parts i x.valid x.item) (λ i x. few_signal o st.parts i x.valid x.item)
  deal_few (forms.Invalidate v) used = few_thing o st.parts (first_of used) (invalidate_deal s st) (λ i x. few_invalidate o s st i x)
  deal_few (forms.Wake u) used = few_used o st.parts (thread_in t u) (λ w. okay (wake_parts st.parts w)) (λ w. omega arith)
  deal_few (forms.Stop u) used = few_used o st.parts (thread_in t u) (stop_deal st) few_stop
  deal_few (forms.Run m limit once) used = omega arith
  deal_few (forms.Observe v k name x) used = few_used o st.parts (first_of used) (λ q. with_filter st.parts x (used_at used 1) (observe_deal st.parts k name q)) (λ q. few_filter o st.parts x (used_at used 1) (observe_deal st.parts k name q) (λ z. omega arith))
  deal_few (forms.Forget v name x) used = few_used o st.parts (first_of used) (λ q. with_filter st.parts x (used_at used 1) (forget_deal st.parts name q)) (λ q. few_filter o st.parts x (used_at used 1) (forget_deal st.parts name q) (λ z. omega arith))
  deal_few (forms.Post name info) used = omega arith
  deal_few x used =
      let deed = deed_at s.classes st.parts.objects x used in
      few_change o st.parts deed.answer (first_of used) (change_unless_skipped deed.answer deed.change) (few_named deed.answer deed.change (deed_few s st x used))

  -- ---- steps

  if_few : (h : Holder) (object : Option ℕ) → degree o (held_if h object) ≤ 1
  if_few h None = omega arith
  if_few h (Some x) = omega (arith, one_most (eqb x o))

  bind_few : (h : Holder) (answer : Answer) (origin : Origin)
      → ((ob : Object) → origin ≡ fresh ob → length (slots_in ob.content) ≤ 1)
      → gains o (bind_step h st.parts (record { answer = answer; origin = origin })).flow ≤ 1025
  bind_few h answer nowhere few = omega arith
  bind_few h answer (fresh ob) few =
      let slots = slots_in ob.content in
      omega (arith, one_most (eqb (length st.parts.objects) o), held_objects (slot (length st.parts.objects)) o slots, times_length o slots, few ob refl)
  bind_few h answer (there x) few =
      omega (arith, weigh-append (leading_to o) (held_if h (found st.parts (there x))) [], if_few h (found st.parts (there x)))

  info_few : (info : Option ℕ) → length (present (info ∷ [])) ≤ 1
  info_few None = omega arith
  info_few (Some x) = omega arith

  object_is : (a b : Object) → fresh a ≡ fresh b → a ≡ b
  object_is a b e = cc

  bound_few : (h : Holder) (x : Statement) (used : List (Option ℕ)) (made : Option Made)
      → gains o (bind_step h st.parts (bound_if s st.parts x used made)).flow ≤ 1025
  bound_few h x used (Some m) =
      bind_few h answers.Skip (fresh (record { class = class_of m.item; content = item_content m.handler (first_of used) true m.item }))
      (λ ob e. subst (λ (b : Object). length (slots_in b.content) ≤ 1) (object_is (record { class = class_of m.item; content = item_content m.handler (first_of used) true m.item }) ob e) (info_few (first_of used)))
  bound_few h x used None =
      let deed = deed_at s.classes st.parts.objects x used in
      let fits = form_fits s.classes x (numbered st.parts.objects (used_at used 0)) (numbered st.parts.objects (used_at used 1)) (numbered st.parts.objects (used_at used 2)) in
      bind_few h deed.answer deed.origin (λ ob e. let none : slots_in ob.content ≡ [] = subst MakesEmpty e fits.makes in let z : length (slots_in ob.content) ≡ 0 = ap length none in omega (arith, z))

  retain_few : (h : Holder) (object : Option ℕ) → gains o (retain_step h st object).flow ≤ 1025
  retain_few h None = omega arith
  retain_few h (Some x) = omega (arith, one_most (eqb x o))

  cut_few : (q : Option Reference) → gains o (cut_flow q) ≤ 1025
  cut_few None = omega arith
  cut_few (Some r) = omega arith

  statement_few : (d : ℕ) (x : Statement) (used : List (Option ℕ)) (ownership : Ownership)
      → gains o (statement_step s t d st x used ownership).flow ≤ 1025
  statement_few d x used Keeps = deal_few x used
  statement_few d x used (Binds v) = bound_few (variable t d v) x used (item_made x)
  statement_few d x used (Retains v) = retain_few (variable t d v) (first_of used)
  statement_few d x used (Releases v) = by (first_of used)
    where
      by : (q : Option ℕ) → gains o (release_step t (variable t d v) st q).flow ≤ 1025
      by None = omega arith
      by (Some p) = cut_few (own_reference t (variable t d v) p st.edges)

  line_few : (fs : List Frame) (x : BlockLine) → gains o (step_of s t st fs (does x)).flow ≤ 1025
  line_few fs (begins v) = omega arith
  line_few fs (claims k v) = by (first_held (parcel t k) st.edges)
    where
      by : (q : Option ℕ) → gains o (claim_step st (parcel t k) q (variable t (depth_of fs) v)).flow ≤ 1025
      by None = omega arith
      by (Some p) = omega arith
  line_few fs (packs u k v) = by (object_at (bindings_of fs) v)
    where
      by : (q : Option ℕ) → gains o (pack_step t st (packed_holder t (depth_of fs) v) q (parcel u k)).flow ≤ 1025
      by None = omega arith
      by (Some p) = omega arith
  line_few fs (says x) = statement_few (depth_of fs) x (used_objects (bindings_of fs) (says x)) (ownership_of x)

  phase_few : (p : Phase) (k : Kind) → gains o (phase_step st t p k).flow ≤ 1025
  phase_few p k = phase_case (λ (s : Step). gains o s.flow ≤ 1025) st t p k (record { woken = omega arith; due = omega arith; sleeps = λ d. omega arith; tests = λ r. omega arith; collects = λ l. omega arith })

  close_few : (k : Kind) → gains o (close_step st k).flow ≤ 1025
  close_few of_block = omega arith
  close_few (of_handler k) = omega arith
  close_few (of_run r) = omega arith

  spend_few : (i : ℕ) (x : Option Thing) → Few o (spend_if s st i x)
  spend_few i None = omega arith
  spend_few i (Some x) = few_either o x.valid (invalidate_deal s st i x) (okay st.parts) (few_invalidate o s st i x) (omega arith)

  demand_few : (fs : List Frame) (d : Demand) → gains o (step_of s t st fs d).flow ≤ 1025
  demand_few fs (does x) = line_few fs x
  demand_few fs ends = omega arith
  demand_few fs returns = omega arith
  demand_few fs (owes p) = cut_few (own_reference t (owed t) p st.edges)
  demand_few fs (spends i) = spend_few i (thing_at st.parts i)
  demand_few fs (drops b k p) = omega arith
  demand_few fs (calls k c) =
      omega (arith, weigh-append (leading_to o) (held_if (variable t (length fs) 0) c.info) (held_if (callout t (length fs)) (item_of k)), if_few (variable t (length fs) 0) c.info, if_few (callout t (length fs)) (item_of k))
  demand_few fs (enters p) = phase_few p (top_kind fs)
  demand_few fs closes = close_few (top_kind fs)

flow_few : (s : Script) (t : ℕ) (st : State) (o : ℕ) → length s.modes ≤ MODES → (d : Option Demand)
    → gains o (flow_if s t st d) ≤ 1025
flow_few s t st o modes None = omega arith
flow_few s t st o modes (Some d) = demand_few s t st o modes (frames_at t st) d

pub few_gained : (s : Script) (st : State) (t : ℕ) (a : Action) (o : ℕ) → length s.modes ≤ MODES
    → gains o (flow_in s t st a) ≤ 1025
few_gained s st t a o modes = by a (action_view a)
  where
    by : (a : Action) → ActionView a → gains o (flow_in s t st a) ≤ 1025
    by _ (is_tick n) = omega arith
    by _ is_stall = omega arith
    by a (is_step _ step) = rw (step.flow s t st) (flow_few s t st o modes (demanded s st t))
