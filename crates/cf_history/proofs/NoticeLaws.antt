-- Along every legal journal of every script: the registrations of the state are those that the entries say, and so are
-- the receivers of a notice.
use Rattle.std.proofs.Common.{◌≡◌, ℕ, Bool, true, false, cond, ◌&&◌, ◌||◌, not, List, [], ◌∷◌, ◌++◌, append-nil, append_assoc, map, length, Option, Some, None, eqb, refl, sym, ap, ◌∙◌, subst, arith}
use Rattle.std.specs.Prelude.{filter, slice_get, slice_index_or}
use Rattle.std.specs.List.{list_any}
use Rattle.std.proofs.lemmas.List.Folds.{list_any-append}
use Rattle.cf_ids.specs.declared.answer.Answer.{Answer}
use Rattle.cf_ids.specs.declared.answer.Answer.TheVariants as answers
use Rattle.rl_base.specs.Dates.{has_come, earlier}
use Rattle.rl_base.specs.declared.registrations.Registration.{Registration}
use Rattle.rl_base.specs.Receivers.{forgets, is_there_and, receivers}
use Rattle.rl_turn.specs.declared.phases.Phase.{Phase}
use Rattle.rl_turn.specs.declared.phases.Phase.TheVariants as phases
use Rattle.cf_syntax.specs.declared.script.Script.{Script}
use Rattle.cf_syntax.specs.declared.statement.Statement.{Statement}
use Rattle.cf_syntax.specs.declared.statement.Statement.TheVariants as forms
use Rattle.cf_syntax.specs.declared.mention.Ownership.{Ownership}
use Rattle.cf_syntax.specs.declared.mention.Ownership.TheVariants.{Keeps, Binds, Retains, Releases}
use Rattle.cf_syntax.specs.Mentions.{ownership_of, first_of, used_at}
use Rattle.cf_syntax.specs.BlockLines.{BlockLine, begins, claims, says, packs}
use Rattle.cf_graph.specs.Holders.{Holder, variable, parcel}
use Rattle.cf_contents.specs.Items.{Item, source_item, timer_item, observer_item, kind_of}
use Rattle.cf_contents.specs.Deeds.{Change, deed_at}
use Rattle.cf_next.specs.declared.action.Action.{Action}
use Rattle.cf_next.specs.declared.action.Action.TheVariants as actions
use Rattle.cf_next.specs.Actions.{Site, action_of}
use Rattle.cf_next.specs.Stands.{has_run, Turn, Kind, of_block, of_handler, of_run, Frame, Work, Stand, item_of}
use Rattle.cf_next.specs.Demands.{Demand, does, returns, owes, spends, drops, calls, closes, frame_lines}
use Rattle.cf_next.specs.Next.{object_at, site_in, phase_action, action_in}
use Rattle.cf_model.specs.declared.entry.Entry.{Entry}
use Rattle.cf_model.specs.Known.{facts_of, may_receive, is_live_filter}
use Rattle.cf_model.specs.State.{Parts, State, start, awake, until, stand_at, flags_at, first_held, is_common, is_live}
use Rattle.cf_model.specs.Things.{Thing, thing_at, mode_date}
use Rattle.cf_model.specs.Deals.{Deal, deal_of, change_deal, change_unless_skipped, with_used, with_thing, thing_deal, with_filter, thread_in, place_in, stays_in_one, is_elsewhere, holds_at, signal_deal, observe_deal, forget_deal}
use Rattle.cf_model.specs.Steps.{Step, idle, step_answer, step_of, acted, answer_if, done_by, frames_at, start_all, end_step, claim_step, pack_step, packed_holder, sleeping, unwoken_step, turn_step, phase_step, close_step, call_step, fire, fire_if, spend_if, retain_step, release_step, statement_step}
use Rattle.cf_model.specs.Journals.{After, after_action, state_from, IsLegalStep, IsLegalAs, IsLegal}
use Rattle.cf_model.proofs.Acting.{next_is}
use Rattle.cf_model.proofs.Entries.{ActionView, IsStep, is_tick, is_stall, is_step, action_view}
use Rattle.cf_model.proofs.Finality.{IsLegalPart, part_of_legal}
use Rattle.cf_model.proofs.Views.{FrameView, StandView, WorkView, first_drops, first_owes, first_spends, is_call, is_close, is_end, is_line, is_phase, is_return, of_frame, of_work, stand_view}
use Rattle.cf_history.specs.Written.{statement_of}
use Rattle.cf_history.specs.History.{is_ok, is_live_after}
use Rattle.cf_history.specs.Notices.{used_at_site, used_in, filter_in, registers, registered_by, registered_in, is_of, is_forgotten_by, is_number, is_forgotten_in, unless_forgotten, registrations_after, is_live_if, hears}
use Rattle.cf_history.specs.Laws.{ReceiversAgree}
use Rattle.cf_history.proofs.ItemSteps.{event}
use Rattle.cf_history.proofs.WrittenLaws.{line_written, site_action}
use Rattle.cf_history.proofs.Along.{live_part}

abbrev Registered : Type 0
Registered = List (Option Registration)

-- what is left of a registration where some are forgotten
abbrev left_by : (Registration → Bool) → Option Registration → Option Registration
left_by gone r = cond (is_there_and gone r) None r

-- the registrations after an entry are what it says
abbrev Tells : Script → Entry → Registered → Registered → Type 0
Tells s e rs after = after ≡ map (left_by (λ r. is_forgotten_in s r e)) rs ++ map Some (registered_in s e)

none_left : (gone : Registration → Bool) → ((r : Registration) → gone r ≡ false) → (rs : Registered)
    → map (left_by gone) rs ≡ rs
none_left gone h [] = refl
none_left gone h (None ∷ rs) = ap (λ (ss : Registered). None ∷ ss) (none_left gone h rs)
none_left gone h (Some r ∷ rs) = ap (λ (b : Bool). cond b None (Some r) ∷ map (left_by gone) rs) (h r) ∙ ap (λ (ss : Registered). Some r ∷ ss) (none_left gone h rs)

and_not : (b c : Bool) → c ≡ false → (b && c) ≡ false
and_not b c e = grind arith

and_no : (b c : Bool) → b ≡ false → (b && c) ≡ false
and_no b c e = grind arith

either_none : (b : Bool) (xs : List Registration) → xs ≡ [] → cond b xs [] ≡ []
either_none true xs e = e
either_none false xs e = refl

-- an entry of an action that neither registers nor forgets
quiet_entry : (s : Script) (t : ℕ) (a : Action) (x : Answer) (rs after : Registered)
    → registered_by (statement_of s a) (used_in a) ≡ []
    → ((r : Registration) → is_forgotten_by (statement_of s a) (used_in a) r ≡ false) → after ≡ rs → Tells s (event t a x) rs after
quiet_entry s t a x rs after none never same =
    let kept = none_left (λ r. is_forgotten_in s r (event t a x)) (λ r. and_not (is_number x) (is_forgotten_by (statement_of s a) (used_in a) r) (never r)) rs in
    same ∙ sym (ap (λ (ys : List Registration). map (left_by (λ r. is_forgotten_in s r (event t a x))) rs ++ map Some ys) (either_none (is_ok x) (registered_by (statement_of s a) (used_in a)) none) ∙ append-nil (map (left_by (λ r. is_forgotten_in s r (event t a x))) rs) ∙ kept)

-- one that is skipped
skipped_entry : (s : Script) (t : ℕ) (a : Action) (rs : Registered) → Tells s (event t a answers.Skip) rs rs
skipped_entry s t a rs = sym (append-nil (map (left_by (λ r. false)) rs) ∙ none_left (λ r. false) (λ r. refl) rs)

module _ (s : Script) (t : ℕ) (st : State) where
  abbrev before : Registered
  before = st.parts.registrations

  abbrev Same : Parts → Type 0
  Same p = p.registrations ≡ before

  either_same : (b : Bool) (x y : Deal) → Same x.parts → Same y.parts → Same (cond b x y).parts
  either_same true x y h k = h
  either_same false x y h k = k

  used_same : (used : Option ℕ) (deal : ℕ → Deal) → ((o : ℕ) → Same (deal o).parts)
      → Same (with_used st.parts used deal).parts
  used_same None deal h = refl
  used_same (Some o) deal h = h o

  thing_same : (used : Option ℕ) (deal : ℕ → Thing → Deal) → ((j : ℕ) (x : Thing) → Same (deal j x).parts)
      → Same (with_thing st.parts used deal).parts
  thing_same None deal h = refl
  thing_same (Some j) deal h = by (thing_at st.parts j)
    where
      by : (x : Option Thing) → Same (thing_deal st.parts j deal x).parts
      by None = refl
      by (Some x) = h j x

  signal_same : (j : ℕ) (valid : Bool) (item : Item) → Same (signal_deal st.parts j valid item).parts
  signal_same j true (source_item order on) = refl
  signal_same j false (source_item order on) = refl
  signal_same j true (timer_item first interval date) = refl
  signal_same j false (timer_item first interval date) = refl
  signal_same j true (observer_item mask repeats order) = refl
  signal_same j false (observer_item mask repeats order) = refl

  change_same : (answer : Answer) (b : Option ℕ) (c : Change) → Same (change_deal st.parts answer b c).parts
  change_same answer None c = refl
  change_same answer (Some b) c = refl

  -- a form that neither registers nor forgets
  abbrev IsOther : Statement → Type 0
  IsOther (forms.Observe v h name x) = ⊥
  IsOther (forms.Forget v name x) = ⊥
  IsOther _ = Unit {0}

  deal_same : (x : Statement) (used : List (Option ℕ)) → IsOther x → Same (deal_of s t st x used).parts
  deal_same (forms.Observe v h name x) used other = absurd other
  deal_same (forms.Forget v name x) used other = absurd other
  deal_same (forms.Add v u m) used other = thing_same (first_of used) _ (λ j x. used_same (thread_in t u) _ (λ w.
      either_same (not x.valid) _ _ refl
      (either_same (stays_in_one (kind_of x.item) && is_elsewhere s w j st.edges) _ _ refl
      (either_same (holds_at w j st.edges (place_in m)) _ _ refl refl))))
  deal_same (forms.Drop v u m) used other = thing_same (first_of used) _ (λ j x. used_same (thread_in t u) _ (λ w. either_same (holds_at w j st.edges (place_in m)) _ _ refl refl))
  deal_same (forms.Common u m) used other = used_same (thread_in t u) _ (λ w. either_same (is_common w st.parts.commons m) _ _ refl refl)
  deal_same (forms.Signal v) used other = thing_same (first_of used) _ (λ j x. signal_same j x.valid x.item)
  deal_same (forms.Invalidate v) used other = thing_same (first_of used) _ (λ j x. either_same x.valid _ _ refl refl)
  deal_same (forms.Wake u) used other = used_same (thread_in t u) _ (λ w. refl)
  deal_same (forms.Stop u) used other = used_same (thread_in t u) _ (λ w. either_same (has_run (stand_at w st.stands).frames) _ _ refl refl)
  deal_same (forms.Run m limit once) used other = refl
  deal_same (forms.Post name info) used other = refl
  deal_same x used other =
      let deed = deed_at s.classes st.parts.objects x used in
      change_same deed.answer (first_of used) (change_unless_skipped deed.answer deed.change)

  retain_same : (k : Holder) (object : Option ℕ) → Same (retain_step k st object).parts
  retain_same k None = refl
  retain_same k (Some o) = refl

  release_same : (k : Holder) (object : Option ℕ) → Same (release_step t k st object).parts
  release_same k None = refl
  release_same k (Some o) = refl

  statement_same : (d : ℕ) (x : Statement) (used : List (Option ℕ)) (ownership : Ownership) → IsOther x
      → Same (statement_step s t d st x used ownership).parts
  statement_same d x used Keeps other = deal_same x used other
  statement_same d x used (Binds v) other = refl
  statement_same d x used (Retains v) other = retain_same (variable t d v) (first_of used)
  statement_same d x used (Releases v) other = release_same (variable t d v) (first_of used)

  -- ---- the two forms

  abbrev After_ : Action → Deal → Type 0
  After_ a deal = Tells s (event t a deal.answer) before deal.parts.registrations

  observes : (a : Action) (h : ℕ) (name x : Option ℕ) (v : ℕ) (used : List (Option ℕ))
      → statement_of s a ≡ Some (forms.Observe v h name x) → used_in a ≡ used
      → After_ a (with_used st.parts (first_of used) (λ o. with_filter st.parts x (used_at used 1) (observe_deal st.parts h name o)))
  observes a h name x v used writes same = by (first_of used) x refl writes
    where
      registered : (o : ℕ) (f x : Option ℕ) → first_of used ≡ Some o → filter_in x used ≡ f
          → statement_of s a ≡ Some (forms.Observe v h name x)
          → After_ a (observe_deal st.parts h name o f)
      registered o f x first is w =
          let r : Registration = record { observer = o; handler = h; name = name; filter = f } in
          let by_it : registered_by (statement_of s a) (used_in a) ≡ r ∷ [] =
          ap (λ (y : Option Statement). registered_by y (used_in a)) w ∙ ap (registered_by (Some (forms.Observe v h name x))) same ∙ ap (λ (q : Option ℕ). registers h name (filter_in x used) q) first ∙ ap (λ (q : Option ℕ). registers h name q (Some o)) is in
          sym (ap (λ (ys : List Registration). map (left_by (λ q. false)) before ++ map Some ys) by_it ∙ ap (λ (ys : Registered). ys ++ Some r ∷ []) (none_left (λ q. false) (λ q. refl) before))

      by_filter : (o v' : ℕ) (object : Option ℕ) → used_at used 1 ≡ object → first_of used ≡ Some o
          → statement_of s a ≡ Some (forms.Observe v h name (Some v'))
          → After_ a (with_used st.parts object (λ q. observe_deal st.parts h name o (Some q)))
      by_filter o v' None e first w = skipped_entry s t a before
      by_filter o v' (Some q) e first w = registered o (Some q) (Some v') first e w

      by : (object x : Option ℕ) → first_of used ≡ object → statement_of s a ≡ Some (forms.Observe v h name x)
          → After_ a (with_used st.parts object (λ o. with_filter st.parts x (used_at used 1) (observe_deal st.parts h name o)))
      by None x first w = skipped_entry s t a before
      by (Some o) None first w = registered o None None first refl w
      by (Some o) (Some v') first w = by_filter o v' (used_at used 1) refl first w

  forgets_some : (a : Action) (name x : Option ℕ) (v : ℕ) (used : List (Option ℕ))
      → statement_of s a ≡ Some (forms.Forget v name x) → used_in a ≡ used
      → After_ a (with_used st.parts (first_of used) (λ o. with_filter st.parts x (used_at used 1) (forget_deal st.parts name o)))
  forgets_some a name x v used writes same = by (first_of used) x refl writes
    where
      forgotten : (o : ℕ) (f x : Option ℕ) → first_of used ≡ Some o → filter_in x used ≡ f
          → statement_of s a ≡ Some (forms.Forget v name x)
          → After_ a (forget_deal st.parts name o f)
      forgotten o f x first is w =
          let gone : (r : Registration) → is_forgotten_by (statement_of s a) (used_in a) r ≡ forgets o name f r = λ r.
          ap (λ (y : Option Statement). is_forgotten_by y (used_in a) r) w ∙ ap (λ (us : List (Option ℕ)). is_forgotten_by (Some (forms.Forget v name x)) us r) same ∙ ap (λ (q : Option ℕ). is_of q name (filter_in x used) r) first ∙ ap (λ (q : Option ℕ). is_of (Some o) name q r) is in
          sym (append-nil (map (left_by (λ r. is_forgotten_by (statement_of s a) (used_in a) r)) before) ∙ ap (λ (g : Registration → Bool). map (left_by g) before) (λ j. λ r. gone r j))

      by_filter : (o v' : ℕ) (object : Option ℕ) → used_at used 1 ≡ object → first_of used ≡ Some o
          → statement_of s a ≡ Some (forms.Forget v name (Some v'))
          → After_ a (with_used st.parts object (λ q. forget_deal st.parts name o (Some q)))
      by_filter o v' None e first w = skipped_entry s t a before
      by_filter o v' (Some q) e first w = forgotten o (Some q) (Some v') first e w

      by : (object x : Option ℕ) → first_of used ≡ object → statement_of s a ≡ Some (forms.Forget v name x)
          → After_ a (with_used st.parts object (λ o. with_filter st.parts x (used_at used 1) (forget_deal st.parts name o)))
      by None x first w = skipped_entry s t a before
      by (Some o) None first w = forgotten o None None first refl w
      by (Some o) (Some v') first w = by_filter o v' (used_at used 1) refl first w

  abbrev Says : Action → Step → Type 0
  Says a step = Tells s (event t a (step_answer step st)) before step.parts.registrations

  statement_says : (d : ℕ) (x : Statement) (site : Site) → statement_of s (action_of x site) ≡ Some x
      → used_in (action_of x site) ≡ site.used
      → Says (action_of x site) (statement_step s t d st x site.used (ownership_of x))
  statement_says d (forms.Observe v h name x) site writes same = observes (action_of (forms.Observe v h name x) site) h name x v site.used writes same
  statement_says d (forms.Forget v name x) site writes same = forgets_some (action_of (forms.Forget v name x) site) name x v site.used writes same
  statement_says d x site writes same =
      quiet_entry s t (action_of x site) (step_answer (statement_step s t d st x site.used (ownership_of x)) st) before (statement_step s t d st x site.used (ownership_of x)).parts.registrations (ap (λ (y : Option Statement). registered_by y (used_in (action_of x site))) writes)
      (λ r. ap (λ (y : Option Statement). is_forgotten_by y (used_in (action_of x site)) r) writes) (statement_same d x site.used (ownership_of x) tt)

  -- ---- other steps

  quiet_says : (a : Action) (step : Step) → statement_of s a ≡ None → Same step.parts → Says a step
  quiet_says a step none same =
      quiet_entry s t a (step_answer step st) before step.parts.registrations (ap (λ (y : Option Statement). registered_by y (used_in a)) none)
      (λ r. ap (λ (y : Option Statement). is_forgotten_by y (used_in a) r) none) same

  claim_same : (h k : Holder) (object : Option ℕ) → Same (claim_step st h object k).parts
  claim_same h k None = refl
  claim_same h k (Some o) = refl

  pack_same : (h k : Holder) (object : Option ℕ) → Same (pack_step t st h object k).parts
  pack_same h k None = refl
  pack_same h k (Some o) = refl

  end_same : Same (end_step t st).parts
  end_same = by (eqb t 0)
    where
      by : (b : Bool) → Same (cond b (record st.parts { flags = start_all st.parts.flags }) st.parts)
      by true = refl
      by false = refl

  either_step : (b : Bool) (x y : Step) → Same x.parts → Same y.parts → Same (cond b x y).parts
  either_step true x y h k = h
  either_step false x y h k = k

  turn_same : (r : Turn) (p : Phase) → Same (turn_step st t r p).parts
  turn_same r phases.Sleep =
      let date = mode_date st t r.mode in
      let least = earlier r.deadline date in
      either_step (flags_at t st.parts.flags).is_woken (sleeping st t answers.Woken awake) (unwoken_step st t r) refl
      (either_step (has_come r.deadline st.parts.time || has_come date st.parts.time) (idle st answers.Due) (sleeping st t (answers.Asleep least) (until least)) refl refl)
  turn_same r phases.Test = refl
  turn_same r p = refl

  phase_same : (p : Phase) (k : Kind) → Same (phase_step st t p k).parts
  phase_same p (of_run r) = turn_same r p
  phase_same p of_block = refl
  phase_same p (of_handler k) = refl

  close_same : (k : Kind) → Same (close_step st k).parts
  close_same (of_run r) = refl
  close_same of_block = refl
  close_same (of_handler k) = refl

  fire_same : (item : Option ℕ) → Same (fire_if st.parts item)
  fire_same None = refl
  fire_same (Some i) = by (thing_at st.parts i)
    where
      by : (x : Option Thing) → Same (fire st.parts i x)
      by None = refl
      by (Some x) = refl

  spend_same : (j : ℕ) (x : Option Thing) → Same (spend_if s st j x).parts
  spend_same j None = refl
  spend_same j (Some x) = either_same x.valid _ _ (either_same x.valid _ _ refl refl) refl

  phase_unwritten : (p : Phase) → statement_of s (phase_action p) ≡ None
  phase_unwritten (phases.Note a) = refl
  phase_unwritten phases.Sources = refl
  phase_unwritten phases.Timers = refl
  phase_unwritten phases.Sleep = refl
  phase_unwritten phases.Test = refl
  phase_unwritten phases.Ran = refl

  abbrev Acted : List Frame → Demand → Type 0
  Acted fs d = Says (action_in s (facts_of st) t fs d) (step_of s t st fs d)

  line_says : (f : Frame) (fs : List Frame) (x : BlockLine) → slice_get (frame_lines s f.kind f.block) f.number ≡ Some x
      → Acted (f ∷ fs) (does x)
  line_says f fs (begins v) e = quiet_says (action_in s (facts_of st) t (f ∷ fs) (does (begins v))) (step_of s t st (f ∷ fs) (does (begins v))) refl refl
  line_says f fs (claims k v) e = quiet_says (action_in s (facts_of st) t (f ∷ fs) (does (claims k v))) (step_of s t st (f ∷ fs) (does (claims k v))) refl (claim_same (parcel t k) (variable t (length fs) v) (first_held (parcel t k) st.edges))
  line_says f fs (packs u k v) e = quiet_says (action_in s (facts_of st) t (f ∷ fs) (does (packs u k v))) (step_of s t st (f ∷ fs) (does (packs u k v))) refl (pack_same (packed_holder t (length fs) v) (parcel u k) (object_at f.bindings v))
  line_says f fs (says x) e = statement_says (length fs) x (site_in s f (says x)) (line_written s f x e) (ap used_at_site (site_action x (site_in s f (says x))))

  frame_says : (f : Frame) (fs : List Frame) (d : Demand) → FrameView s (facts_of st) t f d → Acted (f ∷ fs) d
  frame_says f fs _ (is_call k c e) = quiet_says (action_in s (facts_of st) t (f ∷ fs) (calls k c)) (call_step t (length (f ∷ fs)) st f.kind k c) refl (fire_same (item_of k))
  frame_says f fs _ (is_line x e) = line_says f fs x e
  frame_says f fs _ (is_end e) = quiet_says actions.Done (end_step t st) refl end_same
  frame_says f fs _ (is_return k e last) = quiet_says (action_in s (facts_of st) t (f ∷ fs) returns) (step_of s t st (f ∷ fs) returns) refl refl
  frame_says f fs _ (is_phase r p e) = quiet_says (phase_action p) (phase_step st t p f.kind) (phase_unwritten p) (phase_same p f.kind)
  frame_says f fs _ (is_close r e) = quiet_says (action_in s (facts_of st) t (f ∷ fs) closes) (close_step st f.kind) refl (close_same f.kind)

  work_says : (fs : List Frame) (work : List Work) (d : Demand) → WorkView (facts_of st) work d → Acted fs d
  work_says fs work _ (first_owes o h) = quiet_says (action_in s (facts_of st) t fs (owes o)) (step_of s t st fs (owes o)) refl refl
  work_says fs work _ (first_spends j h) = quiet_says (action_in s (facts_of st) t fs (spends j)) (step_of s t st fs (spends j)) refl (spend_same j (thing_at st.parts j))
  work_says fs work _ (first_drops b k o e h) = quiet_says (action_in s (facts_of st) t fs (drops b k o)) (step_of s t st fs (drops b k o)) refl refl

  demand_says : (stand : Stand) (d : Demand) → StandView s (facts_of st) t stand d → Acted stand.frames d
  demand_says stand d (of_work e view) = work_says stand.frames stand.work d view
  demand_says stand d (of_frame f fs e same view) = subst (λ (gs : List Frame). Acted gs d) (sym same) (frame_says f fs d view)

  step_says : (a : Action) (x : Answer) → IsStep a → IsLegalStep s st (event t a x)
      → Tells s (event t a x) before (after_action s t st a).parts.registrations
  step_says a x step legal =
      let acts = next_is s st t a legal.next in
      let d = acts.demand in
      let fs = frames_at t st in
      let b = action_in s (facts_of st) t fs d in
      let y = step_answer (step_of s t st fs d) st in
      let answer : x ≡ y = legal.answer ∙ ap (answer_if s t st) acts.demands in
      let says_it = demand_says (stand_at t st.stands) d (stand_view s (facts_of st) t (stand_at t st.stands) d acts.demands) in
      let same : event t b y ≡ event t a x = ap (λ (c : Action). event t c y) acts.action ∙ ap (λ (z : Answer). event t a z) (sym answer) in
      subst (λ (q : State). Tells s (event t a x) before q.parts.registrations) (sym (step.after s t st ∙ ap (acted s t st) acts.demands))
      (subst (λ (e : Entry). Tells s e before (done_by s t st d).parts.registrations) same says_it)

  says_by : (a : Action) (x : Answer) → ActionView a → IsLegalAs s st (event t a x) a
      → Tells s (event t a x) before (after_action s t st a).parts.registrations
  says_by _ x (is_tick n) legal = quiet_entry s t (actions.Tick n) x before before refl (λ r. refl) refl
  says_by _ x is_stall legal = quiet_entry s t actions.Stall x before before refl (λ r. refl) refl
  says_by a x (is_step _ step) legal = step_says a x step (step.legal s st (event t a x) legal)

-- ---- one entry more

any_more : (s : Script) (r : Registration) (es : List Entry) (e : Entry)
    → list_any (is_forgotten_in s r) (es ++ e ∷ []) ≡ (list_any (is_forgotten_in s r) es || is_forgotten_in s r e)
any_more s r es e = list_any-append (is_forgotten_in s r) es (e ∷ []) ∙ tidy (list_any (is_forgotten_in s r) es) (is_forgotten_in s r e)
  where
    tidy : (b c : Bool) → (b || (c || false)) ≡ (b || c)
    tidy b c = grind arith

one_more : (s : Script) (es : List Entry) (e : Entry) (r : Registration)
    → unless_forgotten s (es ++ e ∷ []) r ≡ left_by (λ q. is_forgotten_in s q e) (unless_forgotten s es r)
one_more s es e r = ap (λ (b : Bool). cond b None (Some r)) (any_more s r es e) ∙ by (list_any (is_forgotten_in s r) es)
  where
    by : (b : Bool)
        → cond {A = Option Registration} (b || is_forgotten_in s r e) None (Some r) ≡ left_by (λ q. is_forgotten_in s q e) (cond b None (Some r))
    by true = refl
    by false = refl

each_more : (s : Script) (es : List Entry) (e : Entry) (rs : List Registration)
    → map (unless_forgotten s (es ++ e ∷ [])) rs ≡ map (left_by (λ q. is_forgotten_in s q e)) (map (unless_forgotten s es) rs)
each_more s es e [] = refl
each_more s es e (r ∷ rs) = ap (λ (o : Option Registration). o ∷ map (unless_forgotten s (es ++ e ∷ [])) rs) (one_more s es e r) ∙ ap (λ (os : Registered). left_by (λ q. is_forgotten_in s q e) (unless_forgotten s es r) ∷ os) (each_more s es e rs)

each_new : (s : Script) (rs : List Registration) → map (unless_forgotten s []) rs ≡ map Some rs
each_new s [] = refl
each_new s (r ∷ rs) = ap (λ (os : Registered). Some r ∷ os) (each_new s rs)

left_append : (gone : Registration → Bool) (xs ys : Registered)
    → map (left_by gone) (xs ++ ys) ≡ map (left_by gone) xs ++ map (left_by gone) ys
left_append gone [] ys = refl
left_append gone (x ∷ xs) ys = ap (λ (os : Registered). left_by gone x ∷ os) (left_append gone xs ys)

registrations_more : (s : Script) (es : List Entry) (e : Entry)
    → registrations_after s (es ++ e ∷ []) ≡ map (left_by (λ r. is_forgotten_in s r e)) (registrations_after s es) ++ map Some (registered_in s e)
registrations_more s [] e = append-nil (map (unless_forgotten s []) (registered_in s e)) ∙ each_new s (registered_in s e)
registrations_more s (x ∷ es) e =
    let gone : Registration → Bool = λ r. is_forgotten_in s r e in
    let first = registered_in s x in
    ap (λ (os : Registered). os ++ registrations_after s (es ++ e ∷ [])) (each_more s es e first)
    ∙ ap (λ (os : Registered). map (left_by gone) (map (unless_forgotten s es) first) ++ os) (registrations_more s es e)
    ∙ sym (append_assoc (map (left_by gone) (map (unless_forgotten s es) first)) (map (left_by gone) (registrations_after s es)) (map Some (registered_in s e)))
    ∙ ap (λ (os : Registered). os ++ map Some (registered_in s e)) (sym (left_append gone (map (unless_forgotten s es) first) (registrations_after s es)))

registered_from : (s : Script) (es : List Entry) (st : State) (more : List Entry)
    → st.parts.registrations ≡ registrations_after s es → IsLegalPart s st more
    → (state_from s st more).parts.registrations ≡ registrations_after s (es ++ more)
registered_from s es st [] h legal = h ∙ ap (registrations_after s) (sym (append-nil es))
registered_from s es st (e ∷ more) h legal =
    let now = says_by s e.thread st e.action e.answer (action_view e.action) legal.0 ∙ ap (λ (os : Registered). map (left_by (λ r. is_forgotten_in s r e)) os ++ map Some (registered_in s e)) h ∙ sym (registrations_more s es e) in
    registered_from s (es ++ e ∷ []) (after_action s e.thread st e.action) more now legal.1 ∙ ap (registrations_after s) (append_assoc es (e ∷ []) more)

pub registrations_agree : (s : Script) (es : List Entry) → IsLegal s es
    → (After s es).parts.registrations ≡ registrations_after s es
registrations_agree s es legal = registered_from s [] (start s) es refl (part_of_legal s (start s) es legal)

-- ---- receivers

pub receivers_agree : (s : Script) (es : List Entry) → IsLegal s es → ReceiversAgree s es
receivers_agree s es legal name object =
    let p = (After s es).parts in
    let live = live_part s es (part_of_legal s (start s) es legal) in
    let filters : (f : Option ℕ) → is_live_filter p f ≡ is_live_if es f = λ f. by_filter p live f in
    let heard : (r : Registration) → may_receive p r ≡ hears es r = λ r. ap (λ (b : Bool). b && is_live_filter p r.filter) (live r.observer) ∙ ap (λ (b : Bool). is_live_after es r.observer && b) (filters r.filter) in
    ap (λ (rs : Registered). filter (λ k. is_there_and (may_receive p) (slice_index_or rs k None)) (receivers name object rs)) (registrations_agree s es legal)
    ∙ ap (λ (test : Registration → Bool). filter (λ k. is_there_and test (slice_index_or (registrations_after s es) k None)) (receivers name object (registrations_after s es))) (λ j. λ r. heard r j)
  where
    by_filter : (p : Parts) → ((o : ℕ) → is_live p o ≡ is_live_after es o) → (f : Option ℕ)
        → is_live_filter p f ≡ is_live_if es f
    by_filter p live None = refl
    by_filter p live (Some o) = live o
