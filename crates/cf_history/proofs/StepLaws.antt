-- What each demand of a thread says of items: a step of it does to them what its entry says.
use Rattle.std.proofs.Common.{◌≡◌, ℕ, Bool, true, false, cond, ◌&&◌, ◌||◌, not, List, append-nil, length, Option, Some, None, eqb, ltb, refl, sym, ap, ◌∙◌, arith, inl, inr}
use Rattle.std.specs.Prelude.{slice_get}
use Rattle.std.proofs.lemmas.Bool.{and_parts}
use Rattle.std.proofs.lemmas.Bool.Decides.{eqb_tells}
use Rattle.cf_ids.specs.declared.answer.Answer.{Answer}
use Rattle.cf_ids.specs.declared.answer.Answer.TheVariants as answers
use Rattle.cf_syntax.specs.declared.script.Script.{Script}
use Rattle.cf_syntax.specs.declared.statement.Statement.{Statement}
use Rattle.cf_syntax.specs.declared.statement.Statement.TheVariants as forms
use Rattle.cf_syntax.specs.declared.mention.Ownership.{Ownership}
use Rattle.cf_syntax.specs.declared.mention.Ownership.TheVariants.{Keeps, Binds, Retains, Releases}
use Rattle.cf_syntax.specs.Mentions.{ownership_of, first_of, used_at}
use Rattle.cf_graph.specs.Holders.{Holder, variable}
use Rattle.cf_graph.specs.Edges.{Reference, degree}
use Rattle.cf_contents.specs.Items.{Item, source_item, timer_item, observer_item, class_of, kind_of}
use Rattle.cf_contents.specs.Contents.{Object}
use Rattle.cf_contents.specs.Keys.{numbered}
use Rattle.cf_contents.specs.Deeds.{Origin, nowhere, fresh, there, Change, deed_at}
use Rattle.cf_contents.proofs.ContentLaws.{length-objects_after}
use Rattle.cf_contents.proofs.FormLaws.{NamesNone, MakesNoItem, ChangesNoItem, form_fits}
use Rattle.cf_next.specs.declared.action.Action.{Action}
use Rattle.cf_next.specs.declared.action.Action.TheVariants as actions
use Rattle.cf_next.specs.Actions.{Site, action_of}
use Rattle.cf_next.specs.Stands.{has_run}
use Rattle.cf_model.specs.Finals.{bound_in}
use Rattle.cf_model.specs.State.{State, is_made, is_live, times, is_common, stand_at}
use Rattle.cf_model.specs.Things.{Thing, thing_at, thing_of}
use Rattle.cf_model.specs.Own.{own_reference, present_of}
use Rattle.cf_model.specs.Deals.{Deal, answering, deal_of, change_deal, change_unless_skipped, with_used, with_thing, thing_deal, with_filter, with_item, thread_in, place_in, stays_in_one, is_elsewhere, holds_at, signal_deal, invalidate_deal, leaving, every_place}
use Rattle.cf_model.specs.Steps.{Step, flowing, step_answer, cut_answer, cut_flow, type_in, Made, item_made, bound_if, object_answer, bind_step, retain_step, release_step, statement_step}
use Rattle.cf_model.proofs.DeedLaws.{deed_edits, deed_makes, keeps_things, no_item}
use Rattle.cf_model.proofs.Unfinalised.{deal_names}
use Rattle.cf_history.specs.Written.{statement_of}
use Rattle.cf_history.specs.History.{names, is_ok, signalled_in, called_in, invalidated_in, is_source_form, is_item_form, binds}
use Rattle.cf_history.specs.Timing.{time_in, timing_in, timing_if}
use Rattle.cf_history.proofs.ItemLaws.{Tells, Quiet, quiet_tells, made_same, thing_plain, made_more}
use Rattle.cf_history.proofs.ItemSteps.{event, begins_tell, signal_tells, ends_tell}

-- an action that says nothing of items
pub record QuietAction (s : Script) (a : Action) : Type 0 where
  pub unsignalled : signalled_in a ≡ None
  pub uncalled : called_in a ≡ None
  pub item : is_item_form a ≡ false
  pub source : is_source_form a ≡ false
  pub unended : invalidated_in a ≡ None
  pub timing : timing_in (statement_of s a) ≡ None
  pub time : (m : ℕ) → time_in m a ≡ m

and_no : (b c : Bool) → b ≡ false → (b && c) ≡ false
and_no b c e = grind arith

and_not : (b c : Bool) → c ≡ false → (b && c) ≡ false
and_not b c e = grind arith

module _ (s : Script) (i t : ℕ) (st : State) where
  pub quiet_of : (a : Action) (x : Answer) → QuietAction s a → Quiet s i (event t a x)
  quiet_of a x h = record {
    signal = and_no (names i (signalled_in a)) (is_ok x) (ap (names i) h.unsignalled);
    call = ap (names i) h.uncalled;
    make = and_no (is_item_form a) (binds i (event t a x)) h.item;
    source = and_no (is_source_form a) (binds i (event t a x)) h.source;
    invalidation = and_no (names i (invalidated_in a)) (is_ok x) (ap (names i) h.unended);
    timing = ap (timing_if (binds i (event t a x))) h.timing;
  }

  -- a step that does nothing to items
  pub record QuietStep (step : Step) : Type 0 where
    pub time : step.parts.time ≡ st.parts.time
    pub made : is_made step.parts i ≡ (is_made st.parts i || names i (bound_in (step_answer step st)))
    pub things : thing_at step.parts i ≡ thing_at st.parts i

  abbrev pub StepTells : Action → Step → Type 0
  StepTells a step = Tells s i (event t a (step_answer step st)) st.parts step.parts

  pub quiet_step : (a : Action) (step : Step) → QuietAction s a → QuietStep step → StepTells a step
  quiet_step a step q h = quiet_tells s i (event t a (step_answer step st)) st.parts step.parts (quiet_of a (step_answer step st) q) (h.time ∙ sym (q.time st.parts.time)) h.made h.things

  -- objects stay
  pub still_step : (step : Step) → step.parts.time ≡ st.parts.time → step.parts.objects ≡ st.parts.objects
      → bound_in (step_answer step st) ≡ None → QuietStep step
  still_step step time same none = record {
    time = time;
    made = made_same st.parts step.parts i (names i (bound_in (step_answer step st))) (ap length same) (ap (names i) none);
    things = ap (λ (obs : List Object). thing_of (slice_get obs i)) same;
  }

  pub cut_unbound : (c : Option ℕ) (objects : List Object) (left : List Reference) (other : Answer)
      → bound_in other ≡ None → bound_in (cut_answer c objects left other) ≡ None
  cut_unbound None objects left other h = h
  cut_unbound (Some o) objects left other h = by (eqb (degree o left) 0)
    where
      by : (b : Bool) → bound_in (cond b (answers.Final (type_in (slice_get objects o))) answers.More) ≡ None
      by true = refl
      by false = refl

  -- ---- deals

  abbrev QuietDeal : Deal → Type 0
  QuietDeal deal = (deal.parts.time ≡ st.parts.time) × (length deal.parts.objects ≡ length st.parts.objects) × (thing_at deal.parts i ≡ thing_at st.parts i)

  quiet_deal : QuietDeal (answering st.parts answers.Ok)
  quiet_deal = (refl, refl, refl)

  either : (b : Bool) (x y : Deal) → QuietDeal x → QuietDeal y → QuietDeal (cond b x y)
  either true x y h k = h
  either false x y h k = k

  used_deal : (used : Option ℕ) (deal : ℕ → Deal) → ((o : ℕ) → QuietDeal (deal o))
      → QuietDeal (with_used st.parts used deal)
  used_deal None deal h = quiet_deal
  used_deal (Some o) deal h = h o

  item_deal : (used : Option ℕ) (deal : ℕ → Thing → Deal) → ((j : ℕ) (x : Thing) → QuietDeal (deal j x))
      → QuietDeal (with_thing st.parts used deal)
  item_deal None deal h = quiet_deal
  item_deal (Some j) deal h = by (thing_at st.parts j)
    where
      by : (x : Option Thing) → QuietDeal (thing_deal st.parts j deal x)
      by None = quiet_deal
      by (Some x) = h j x

  filter_deal : (v object : Option ℕ) (deal : Option ℕ → Deal) → ((f : Option ℕ) → QuietDeal (deal f))
      → QuietDeal (with_filter st.parts v object deal)
  filter_deal None object deal h = h None
  filter_deal (Some v) object deal h = used_deal object (λ o. deal (Some o)) (λ o. h (Some o))

  plain_unless : (answer : Answer) (c : Change) → ChangesNoItem c → ChangesNoItem (change_unless_skipped answer c)
  plain_unless answers.Skip c h = tt
  plain_unless _ c h = h

  body_deal : (answer : Answer) (b : Option ℕ) (c : Change) → ChangesNoItem c
      → QuietDeal (change_deal st.parts answer b c)
  body_deal answer None c h = quiet_deal
  body_deal answer (Some b) c h = (refl, length-objects_after (Some b) c st.parts.objects, keeps_things b c st.parts.objects i h)

  -- a form that is neither a signal nor the end of an item
  abbrev pub IsOther : Statement → Type 0
  IsOther (forms.Signal v) = ⊥
  IsOther (forms.Invalidate v) = ⊥
  IsOther _ = Unit {0}

  deal_quiet : (x : Statement) (used : List (Option ℕ)) → IsOther x → QuietDeal (deal_of s t st x used)
  deal_quiet (forms.Signal v) used h = absurd h
  deal_quiet (forms.Invalidate v) used h = absurd h
  deal_quiet (forms.Add v u m) used h = item_deal (first_of used) _ (λ j x. used_deal (thread_in t u) _ (λ w.
      either (not x.valid) _ _ quiet_deal
      (either (stays_in_one (kind_of x.item) && is_elsewhere s w j st.edges) _ _ quiet_deal
      (either (holds_at w j st.edges (place_in m)) _ _ quiet_deal quiet_deal))))
  deal_quiet (forms.Drop v u m) used h = item_deal (first_of used) _ (λ j x. used_deal (thread_in t u) _ (λ w.
      either (holds_at w j st.edges (place_in m)) _ _ quiet_deal quiet_deal))
  deal_quiet (forms.Common u m) used h = used_deal (thread_in t u) _ (λ w. either (is_common w st.parts.commons m) _ _ quiet_deal quiet_deal)
  deal_quiet (forms.Wake u) used h = used_deal (thread_in t u) _ (λ w. quiet_deal)
  deal_quiet (forms.Stop u) used h = used_deal (thread_in t u) _ (λ w. either (has_run (stand_at w st.stands).frames) _ _ quiet_deal quiet_deal)
  deal_quiet (forms.Run m limit once) used h = quiet_deal
  deal_quiet (forms.Observe v k name x) used h = used_deal (first_of used) _ (λ o. filter_deal x (used_at used 1) _ (λ f. quiet_deal))
  deal_quiet (forms.Forget v name x) used h = used_deal (first_of used) _ (λ o. filter_deal x (used_at used 1) _ (λ f. quiet_deal))
  deal_quiet (forms.Post name info) used h = quiet_deal
  deal_quiet x used h =
      let deed = deed_at s.classes st.parts.objects x used in
      body_deal deed.answer (first_of used) (change_unless_skipped deed.answer deed.change)
      (plain_unless deed.answer deed.change (deed_edits s.classes st.parts.objects x used))

  names_unbound : (a : Answer) → NamesNone a → bound_in a ≡ None
  names_unbound (answers.Object o) h = absurd h
  names_unbound _ h = refl

  -- ---- what is bound

  live_made : (o : ℕ) → is_live st.parts o ≡ true → is_made st.parts o ≡ true
  live_made o h = (and_parts (is_made st.parts o) (eqb (times o st.parts.finalised) 0) h).0

  there_made : (o : ℕ) (b : Bool) (other : Answer) → bound_in other ≡ None → is_live st.parts o ≡ b
      → is_made st.parts i ≡ (is_made st.parts i || names i (bound_in (object_answer (cond b (Some o) None) other)))
  there_made o false other none e = or_no (is_made st.parts i) (names i (bound_in other)) (ap (names i) none)
    where
      or_no : (b c : Bool) → c ≡ false → b ≡ (b || c)
      or_no b c e = grind arith
  there_made o true other none e = elim (eqb_tells o i) [
    | inl same ↦ already (is_made st.parts i) (eqb o i) (ap (is_made st.parts) (sym same.1) ∙ live_made o e)
    | inr apart ↦ or_no (is_made st.parts i) (eqb o i) apart.0
  ]
    where
      or_no : (b c : Bool) → c ≡ false → b ≡ (b || c)
      or_no b c e = grind arith

      already : (b c : Bool) → b ≡ true → b ≡ (b || c)
      already b c e = grind arith

  bound_quiet : (k : Holder) (answer : Answer) (origin : Origin) → MakesNoItem origin → bound_in answer ≡ None
      → QuietStep (bind_step k st.parts (record { answer = answer; origin = origin }))
  bound_quiet k answer nowhere h none = still_step _ refl (append-nil st.parts.objects) none
  bound_quiet k answer (fresh ob) h none = record {
    time = refl;
    made = made_more st.parts.objects ob i;
    things = thing_plain st.parts.objects ob i (no_item ob.content h);
  }
  bound_quiet k answer (there o) h none = record {
    time = refl;
    made = ap (λ (obs : List Object). ltb i (length obs)) (append-nil st.parts.objects) ∙ there_made o (is_live st.parts o) answer none refl;
    things = ap (λ (obs : List Object). thing_of (slice_get obs i)) (append-nil st.parts.objects);
  }

  bound_by : (k : Holder) (x : Statement) (used : List (Option ℕ)) (made : Option Made) → made ≡ None
      → QuietStep (bind_step k st.parts (bound_if s st.parts x used made))
  bound_by k x used None e =
      let a = numbered st.parts.objects (used_at used 0) in
      let b = numbered st.parts.objects (used_at used 1) in
      let c = numbered st.parts.objects (used_at used 2) in
      let deed = deed_at s.classes st.parts.objects x used in
      bound_quiet k deed.answer deed.origin (deed_makes s.classes st.parts.objects x used) (names_unbound deed.answer (form_fits s.classes x a b c).names)
  bound_by k x used (Some m) e = absurd cc

  -- ---- statements

  retain_quiet : (k : Holder) (object : Option ℕ) → QuietStep (retain_step k st object)
  retain_quiet k None = still_step _ refl refl refl
  retain_quiet k (Some o) = still_step _ refl refl refl

  pub cut_quiet : (k : Holder) (o : ℕ) → (r : Option Reference) → QuietStep (flowing st answers.Ok (cut_flow r))
  cut_quiet k o None = still_step _ refl refl refl
  cut_quiet k o (Some r) = still_step _ refl refl (cut_unbound (Some r.object) st.parts.objects _ answers.Ok refl)

  release_quiet : (k : Holder) (object : Option ℕ) → QuietStep (release_step t k st object)
  release_quiet k None = still_step _ refl refl refl
  release_quiet k (Some o) = cut_quiet k o (own_reference t k o st.edges)

  statement_quiet : (d : ℕ) (x : Statement) (used : List (Option ℕ)) (ownership : Ownership) → IsOther x
      → item_made x ≡ None → QuietStep (statement_step s t d st x used ownership)
  statement_quiet d x used Keeps h none =
      let deal = deal_quiet x used h in
      record {
        time = deal.0;
        made = made_same st.parts (deal_of s t st x used).parts i (names i (bound_in (deal_of s t st x used).answer)) deal.1 (ap (names i) (names_unbound (deal_of s t st x used).answer (deal_names s t st x used)));
        things = deal.2;
      }
  statement_quiet d x used (Binds v) h none = bound_by (variable t d v) x used (item_made x) none
  statement_quiet d x used (Retains v) h none = retain_quiet (variable t d v) (first_of used)
  statement_quiet d x used (Releases v) h none = release_quiet (variable t d v) (first_of used)

  -- what a statement says, that writes this action
  signal_statement : (v b n : ℕ) (used : List (Option ℕ)) (object : Option ℕ) → first_of used ≡ object
      → timing_in (statement_of s (actions.Signal b n used)) ≡ None
      → Tells s i (event t (actions.Signal b n used) (with_thing st.parts object (λ j x. signal_deal st.parts j x.valid x.item)).answer) st.parts (with_thing st.parts object (λ j x. signal_deal st.parts j x.valid x.item)).parts
  signal_statement v b n used None e plain = skipped answers.Skip refl refl
    where
      skipped : (x : Answer) → is_ok x ≡ false → bound_in x ≡ None
          → Tells s i (event t (actions.Signal b n used) x) st.parts st.parts
      skipped x bad none = quiet_tells s i (event t (actions.Signal b n used) x) st.parts st.parts
          (record { signal = and_not (names i (first_of used)) (is_ok x) bad; call = refl; make = refl; source = refl; invalidation = refl; timing = ap (timing_if (binds i (event t (actions.Signal b n used) x))) plain })
          refl (made_same st.parts st.parts i (names i (bound_in x)) refl (ap (names i) none)) refl
  signal_statement v b n used (Some j) e plain = by (thing_at st.parts j) refl
    where
      skipped : (x : Answer) → is_ok x ≡ false → bound_in x ≡ None
          → Tells s i (event t (actions.Signal b n used) x) st.parts st.parts
      skipped x bad none = quiet_tells s i (event t (actions.Signal b n used) x) st.parts st.parts
          (record { signal = and_not (names i (first_of used)) (is_ok x) bad; call = refl; make = refl; source = refl; invalidation = refl; timing = ap (timing_if (binds i (event t (actions.Signal b n used) x))) plain })
          refl (made_same st.parts st.parts i (names i (bound_in x)) refl (ap (names i) none)) refl

      on_item : (h : ℕ) (info : Option ℕ) (valid : Bool) (item : Item)
          → thing_at st.parts j ≡ Some (record { handler = h; info = info; valid = valid; item = item })
          → Tells s i (event t (actions.Signal b n used) (signal_deal st.parts j valid item).answer) st.parts (signal_deal st.parts j valid item).parts
      on_item h info true (source_item order on) was = signal_tells s i t j st.parts b n used e plain h info order on was
      on_item h info false (source_item order on) was = skipped answers.Invalid refl refl
      on_item h info true (timer_item first interval date) was = skipped answers.Skip refl refl
      on_item h info false (timer_item first interval date) was = skipped answers.Skip refl refl
      on_item h info true (observer_item mask repeats order) was = skipped answers.Skip refl refl
      on_item h info false (observer_item mask repeats order) was = skipped answers.Skip refl refl

      by : (x : Option Thing) → thing_at st.parts j ≡ x
          → Tells s i (event t (actions.Signal b n used) (thing_deal st.parts j (λ j x. signal_deal st.parts j x.valid x.item) x).answer) st.parts (thing_deal st.parts j (λ j x. signal_deal st.parts j x.valid x.item) x).parts
      by None was = skipped answers.Skip refl refl
      by (Some x) was = on_item x.handler x.info x.valid x.item was

  ends_of : (b n j : ℕ) (used : List (Option ℕ)) → first_of used ≡ Some j
      → timing_in (statement_of s (actions.Invalidate b n used)) ≡ None
      → (invalidated_in (actions.Invalidate b n used) ≡ Some j) × (signalled_in (actions.Invalidate b n used) ≡ None) × (called_in (actions.Invalidate b n used) ≡ None) × (is_item_form (actions.Invalidate b n used) ≡ false) × (is_source_form (actions.Invalidate b n used) ≡ false) × ((m : ℕ) → time_in m (actions.Invalidate b n used) ≡ m) × (timing_in (statement_of s (actions.Invalidate b n used)) ≡ None)
  ends_of b n j used first plain = (first, refl, refl, refl, refl, (λ m. refl), plain)

  end_statement : (b n : ℕ) (used : List (Option ℕ)) (object : Option ℕ) → first_of used ≡ object
      → timing_in (statement_of s (actions.Invalidate b n used)) ≡ None
      → Tells s i (event t (actions.Invalidate b n used) (with_thing st.parts object (invalidate_deal s st)).answer) st.parts (with_thing st.parts object (invalidate_deal s st)).parts
  end_statement b n used object e plain = by_object object e
    where
      skipped : (x : Answer) → is_ok x ≡ false → bound_in x ≡ None
          → Tells s i (event t (actions.Invalidate b n used) x) st.parts st.parts
      skipped x bad none = quiet_tells s i (event t (actions.Invalidate b n used) x) st.parts st.parts
          (record { signal = refl; call = refl; make = refl; source = refl; invalidation = and_not (names i (first_of used)) (is_ok x) bad; timing = ap (timing_if (binds i (event t (actions.Invalidate b n used) x))) plain })
          refl (made_same st.parts st.parts i (names i (bound_in x)) refl (ap (names i) none)) refl

      on_item : (j : ℕ) (x : Thing) (valid : Bool) → first_of used ≡ Some j → thing_at st.parts j ≡ Some x
          → x.valid ≡ valid
          → Tells s i (event t (actions.Invalidate b n used) (cond valid (leaving (with_item st.parts j false x.item) (present_of (every_place s j st.edges) st.edges)) (answering st.parts answers.Invalid)).answer) st.parts
          (cond valid (leaving (with_item st.parts j false x.item) (present_of (every_place s j st.edges) st.edges)) (answering st.parts answers.Invalid)).parts
      on_item j x true first was valid = ends_tell s i t j st.parts (actions.Invalidate b n used) x (ends_of b n j used first plain) was
      on_item j x false first was valid = skipped answers.Invalid refl refl

      by_thing : (j : ℕ) (x : Option Thing) → first_of used ≡ Some j → thing_at st.parts j ≡ x
          → Tells s i (event t (actions.Invalidate b n used) (thing_deal st.parts j (invalidate_deal s st) x).answer) st.parts (thing_deal st.parts j (invalidate_deal s st) x).parts
      by_thing j None first was = skipped answers.Skip refl refl
      by_thing j (Some x) first was = on_item j x x.valid first was refl

      by_object : (object : Option ℕ) → first_of used ≡ object
          → Tells s i (event t (actions.Invalidate b n used) (with_thing st.parts object (invalidate_deal s st)).answer) st.parts (with_thing st.parts object (invalidate_deal s st)).parts
      by_object None first = skipped answers.Skip refl refl
      by_object (Some j) first = by_thing j (thing_at st.parts j) first refl

  -- the statement that an action writes is this one
  abbrev Writes : Action → Statement → Type 0
  Writes a x = statement_of s a ≡ Some x

  pub statement_tells : (d : ℕ) (x : Statement) (site : Site) → Writes (action_of x site) x
      → StepTells (action_of x site) (statement_step s t d st x site.used (ownership_of x))
  statement_tells d (forms.MakeSource v order h info) site e = begins_tell s t st.parts _ h (first_of site.used) (source_item order false) (class_of (source_item order false))
      (record { form = refl; source = refl; unsignalled = refl; uncalled = refl; unended = refl; time = λ m. refl; timing = ap timing_in e; dark = refl; date = refl }) i
  statement_tells d (forms.MakeTimer v first interval h info) site e = begins_tell s t st.parts _ h (first_of site.used) (timer_item first interval (Some first)) (class_of (timer_item first interval (Some first)))
      (record { form = refl; source = refl; unsignalled = refl; uncalled = refl; unended = refl; time = λ m. refl; timing = ap timing_in e; dark = refl; date = refl }) i
  statement_tells d (forms.MakeObserver v mask repeats order h info) site e = begins_tell s t st.parts _ h (first_of site.used) (observer_item mask repeats order) (class_of (observer_item mask repeats order))
      (record { form = refl; source = refl; unsignalled = refl; uncalled = refl; unended = refl; time = λ m. refl; timing = ap timing_in e; dark = refl; date = refl }) i
  statement_tells d (forms.Signal v) site e = signal_statement v site.block site.number site.used (first_of site.used) refl (ap timing_in e)
  statement_tells d (forms.Invalidate v) site e = end_statement site.block site.number site.used (first_of site.used) refl (ap timing_in e)
  statement_tells d x site e = quiet_step (action_of x site) _ (record { unsignalled = refl; uncalled = refl; item = refl; source = refl; unended = refl; timing = ap timing_in e; time = λ m. refl }) (statement_quiet d x site.used (ownership_of x) tt refl)
