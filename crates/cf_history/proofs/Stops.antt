-- A step stops the run of the thread that its entry says.
use Rattle.std.proofs.Common.{◌≡◌, ℕ, Bool, true, false, cond, ◌&&◌, ◌||◌, not, List, ◌∷◌, length, Option, Some, None, eqb, refl, sym, ap, ◌∙◌, subst, arith}
use Rattle.std.specs.Prelude.{slice_get}
use Rattle.cf_ids.specs.declared.answer.Answer.{Answer}
use Rattle.cf_ids.specs.declared.answer.Answer.TheVariants as answers
use Rattle.rl_base.specs.Dates.{has_come, earlier}
use Rattle.rl_turn.specs.declared.phases.Phase.{Phase}
use Rattle.rl_turn.specs.declared.phases.Phase.TheVariants as phases
use Rattle.cf_syntax.specs.declared.script.Script.{Script}
use Rattle.cf_syntax.specs.declared.statement.Statement.{Statement}
use Rattle.cf_syntax.specs.declared.statement.Statement.TheVariants as forms
use Rattle.cf_syntax.specs.declared.mention.ThreadWord.TheVariants.{Own, Named}
use Rattle.cf_syntax.specs.declared.mention.Ownership.{Ownership}
use Rattle.cf_syntax.specs.declared.mention.Ownership.TheVariants.{Keeps, Binds, Retains, Releases}
use Rattle.cf_syntax.specs.Mentions.{ownership_of, first_of, used_at}
use Rattle.cf_syntax.specs.BlockLines.{BlockLine, begins, claims, says, packs}
use Rattle.cf_graph.specs.Holders.{Holder, variable, parcel}
use Rattle.cf_contents.specs.Items.{Item, source_item, timer_item, observer_item, kind_of}
use Rattle.cf_contents.specs.Deeds.{Change, deed_at}
use Rattle.cf_next.specs.declared.action.Action.{Action}
use Rattle.cf_next.specs.declared.action.Action.TheVariants as actions
use Rattle.cf_next.specs.Actions.{Site, action_of}
use Rattle.cf_next.specs.Stands.{Callee, has_run, Turn, Kind, of_block, of_handler, of_run, Frame, Work, Stand}
use Rattle.cf_next.specs.Demands.{Demand, does, ends, returns, owes, spends, drops, calls, closes, frame_lines}
use Rattle.cf_next.specs.Next.{object_at, site_in, phase_action, action_in}
use Rattle.cf_model.specs.Known.{facts_of}
use Rattle.cf_model.specs.State.{State, awake, until, stand_at, flags_at, first_held, is_common}
use Rattle.cf_model.specs.Things.{Thing, thing_at, mode_date}
use Rattle.cf_model.specs.Deals.{Deal, answering, okay, wake_parts, deal_of, change_deal, change_unless_skipped, with_used, with_thing, thing_deal, with_filter, thread_in, place_in, stays_in_one, is_elsewhere, holds_at, signal_deal, stop_deal}
use Rattle.cf_model.specs.Steps.{Step, idle, step_answer, step_of, claim_step, pack_step, packed_holder, sleeping, unwoken_step, turn_step, phase_step, close_step, spend_if, retain_step, release_step, statement_step}
use Rattle.cf_model.proofs.Views.{WorkView, first_drops, first_owes, first_spends}
use Rattle.cf_history.specs.Written.{statement_of}
use Rattle.cf_history.specs.History.{names, is_ok}
use Rattle.cf_history.specs.OpenRuns.{stopped_by, stops}
use Rattle.cf_history.proofs.ItemSteps.{event}
use Rattle.cf_history.proofs.WrittenLaws.{line_written}
use Rattle.cf_history.proofs.RunViews.{Asks, asks_call, asks_line, asks_end, asks_return, asks_phase, asks_close, StandAsks, asks_work, asks_frame}

and_no : (b c : Bool) → b ≡ false → (b && c) ≡ false
and_no b c e = grind arith

and_not : (b : Bool) → (b && false) ≡ false
and_not b = grind arith

and_yes : (b : Bool) → (b && true) ≡ b
and_yes b = grind arith

module _ (s : Script) (u t : ℕ) (st : State) where
  abbrev Tells : Action → Step → Type 0
  Tells a step = stops s u (event t a (step_answer step st)) ≡ names u step.stops

  quiet : (a : Action) (step : Step) → stopped_by t (statement_of s a) ≡ None → step.stops ≡ None → Tells a step
  quiet a step none stop = and_no (names u (stopped_by t (statement_of s a))) (is_ok (step_answer step st)) (ap (names u) none) ∙ sym (ap (names u) stop)

  abbrev NoStop : Deal → Type 0
  NoStop deal = deal.stops ≡ None

  either : (b : Bool) (x y : Deal) → NoStop x → NoStop y → NoStop (cond b x y)
  either true x y h k = h
  either false x y h k = k

  used_stop : (used : Option ℕ) (deal : ℕ → Deal) → ((o : ℕ) → NoStop (deal o)) → NoStop (with_used st.parts used deal)
  used_stop None deal h = refl
  used_stop (Some o) deal h = h o

  thing_stop : (used : Option ℕ) (deal : ℕ → Thing → Deal) → ((j : ℕ) (x : Thing) → NoStop (deal j x))
      → NoStop (with_thing st.parts used deal)
  thing_stop None deal h = refl
  thing_stop (Some j) deal h = by (thing_at st.parts j)
    where
      by : (x : Option Thing) → NoStop (thing_deal st.parts j deal x)
      by None = refl
      by (Some x) = h j x

  filter_stop : (v object : Option ℕ) (deal : Option ℕ → Deal) → ((f : Option ℕ) → NoStop (deal f))
      → NoStop (with_filter st.parts v object deal)
  filter_stop None object deal h = h None
  filter_stop (Some v) object deal h = used_stop object (λ o. deal (Some o)) (λ o. h (Some o))

  signal_stop : (j : ℕ) (valid : Bool) (item : Item) → NoStop (signal_deal st.parts j valid item)
  signal_stop j true (source_item order on) = refl
  signal_stop j false (source_item order on) = refl
  signal_stop j true (timer_item first interval date) = refl
  signal_stop j false (timer_item first interval date) = refl
  signal_stop j true (observer_item mask repeats order) = refl
  signal_stop j false (observer_item mask repeats order) = refl

  change_stop : (answer : Answer) (b : Option ℕ) (c : Change) → NoStop (change_deal st.parts answer b c)
  change_stop answer None c = refl
  change_stop answer (Some b) c = refl

  abbrev IsOther : Statement → Type 0
  IsOther (forms.Stop w) = ⊥
  IsOther _ = Unit {0}

  deal_stop : (x : Statement) (used : List (Option ℕ)) → IsOther x → NoStop (deal_of s t st x used)
  deal_stop (forms.Stop w) used other = absurd other
  deal_stop (forms.Add v w m) used other = thing_stop (first_of used) _ (λ j x. used_stop (thread_in t w) _ (λ z.
      either (not x.valid) _ _ refl
      (either (stays_in_one (kind_of x.item) && is_elsewhere s z j st.edges) _ _ refl
      (either (holds_at z j st.edges (place_in m)) _ _ refl refl))))
  deal_stop (forms.Drop v w m) used other = thing_stop (first_of used) _ (λ j x. used_stop (thread_in t w) _ (λ z. either (holds_at z j st.edges (place_in m)) _ _ refl refl))
  deal_stop (forms.Common w m) used other = used_stop (thread_in t w) _ (λ z. either (is_common z st.parts.commons m) _ _ refl refl)
  deal_stop (forms.Signal v) used other = thing_stop (first_of used) _ (λ j x. signal_stop j x.valid x.item)
  deal_stop (forms.Invalidate v) used other = thing_stop (first_of used) _ (λ j x. either x.valid _ _ refl refl)
  deal_stop (forms.Wake w) used other = used_stop (thread_in t w) _ (λ z. refl)
  deal_stop (forms.Run m limit once) used other = refl
  deal_stop (forms.Observe v h name x) used other = used_stop (first_of used) _ (λ o. filter_stop x (used_at used 1) _ (λ f. refl))
  deal_stop (forms.Forget v name x) used other = used_stop (first_of used) _ (λ o. filter_stop x (used_at used 1) _ (λ f. refl))
  deal_stop (forms.Post name info) used other = refl
  deal_stop x used other =
      let deed = deed_at s.classes st.parts.objects x used in
      change_stop deed.answer (first_of used) (change_unless_skipped deed.answer deed.change)

  retain_stop : (k : Holder) (object : Option ℕ) → (retain_step k st object).stops ≡ None
  retain_stop k None = refl
  retain_stop k (Some o) = refl

  release_stop : (k : Holder) (object : Option ℕ) → (release_step t k st object).stops ≡ None
  release_stop k None = refl
  release_stop k (Some o) = refl

  statement_stop : (d : ℕ) (x : Statement) (used : List (Option ℕ)) (ownership : Ownership) → IsOther x
      → (statement_step s t d st x used ownership).stops ≡ None
  statement_stop d x used Keeps other = deal_stop x used other
  statement_stop d x used (Binds v) other = refl
  statement_stop d x used (Retains v) other = retain_stop (variable t d v) (first_of used)
  statement_stop d x used (Releases v) other = release_stop (variable t d v) (first_of used)

  stop_says : (w : Option ℕ)
      → (names u w && is_ok (with_used st.parts w (stop_deal st)).answer) ≡ names u (with_used st.parts w (stop_deal st)).stops
  stop_says None = refl
  stop_says (Some v) = by (has_run (stand_at v st.stands).frames)
    where
      by : (b : Bool)
          → (names u (Some v) && is_ok (cond b (record (okay (wake_parts st.parts v)) { stops = Some v }) (answering st.parts answers.Idle)).answer) ≡ names u (cond b (record (okay (wake_parts st.parts v)) { stops = Some v }) (answering st.parts answers.Idle)).stops
      by true = and_yes (eqb v u)
      by false = and_not (eqb v u)

  statement_tells : (d : ℕ) (x : Statement) (site : Site) → statement_of s (action_of x site) ≡ Some x
      → Tells (action_of x site) (statement_step s t d st x site.used (ownership_of x))
  statement_tells d (forms.Stop Own) site e = ap (λ (y : Option Statement). names u (stopped_by t y) && is_ok (with_used st.parts (Some t) (stop_deal st)).answer) e ∙ stop_says (Some t)
  statement_tells d (forms.Stop (Named w)) site e = ap (λ (y : Option Statement). names u (stopped_by t y) && is_ok (with_used st.parts w (stop_deal st)).answer) e ∙ stop_says w
  statement_tells d x site e = quiet (action_of x site) (statement_step s t d st x site.used (ownership_of x)) (ap (stopped_by t) e) (statement_stop d x site.used (ownership_of x) tt)

  claim_stop : (h k : Holder) (object : Option ℕ) → (claim_step st h object k).stops ≡ None
  claim_stop h k None = refl
  claim_stop h k (Some o) = refl

  pack_stop : (h k : Holder) (object : Option ℕ) → (pack_step t st h object k).stops ≡ None
  pack_stop h k None = refl
  pack_stop h k (Some o) = refl

  either_step : (b : Bool) (x y : Step) → x.stops ≡ None → y.stops ≡ None → (cond b x y).stops ≡ None
  either_step true x y h k = h
  either_step false x y h k = k

  turn_stop : (r : Turn) (p : Phase) → (turn_step st t r p).stops ≡ None
  turn_stop r phases.Sleep =
      let date = mode_date st t r.mode in
      let least = earlier r.deadline date in
      either_step (flags_at t st.parts.flags).is_woken (sleeping st t answers.Woken awake) (unwoken_step st t r) refl
      (either_step (has_come r.deadline st.parts.time || has_come date st.parts.time) (idle st answers.Due) (sleeping st t (answers.Asleep least) (until least)) refl refl)
  turn_stop r phases.Test = refl
  turn_stop r p = refl

  phase_stop : (p : Phase) (k : Kind) → (phase_step st t p k).stops ≡ None
  phase_stop p (of_run r) = turn_stop r p
  phase_stop p of_block = refl
  phase_stop p (of_handler k) = refl

  close_stop : (k : Kind) → (close_step st k).stops ≡ None
  close_stop (of_run r) = refl
  close_stop of_block = refl
  close_stop (of_handler k) = refl

  spend_stop : (j : ℕ) (x : Option Thing) → NoStop (spend_if s st j x)
  spend_stop j None = refl
  spend_stop j (Some x) = either x.valid _ _ (either x.valid _ _ refl refl) refl

  phase_unwritten : (p : Phase) → stopped_by t (statement_of s (phase_action p)) ≡ None
  phase_unwritten (phases.Note a) = refl
  phase_unwritten phases.Sources = refl
  phase_unwritten phases.Timers = refl
  phase_unwritten phases.Sleep = refl
  phase_unwritten phases.Test = refl
  phase_unwritten phases.Ran = refl

  abbrev Acted : List Frame → Demand → Type 0
  Acted fs d = Tells (action_in s (facts_of st) t fs d) (step_of s t st fs d)

  line_tells : (f : Frame) (fs : List Frame) (x : BlockLine)
      → slice_get (frame_lines s f.kind f.block) f.number ≡ Some x → Acted (f ∷ fs) (does x)
  line_tells f fs (begins v) e = quiet actions.Done (step_of s t st (f ∷ fs) (does (begins v))) refl refl
  line_tells f fs (claims k v) e = quiet (action_in s (facts_of st) t (f ∷ fs) (does (claims k v))) (step_of s t st (f ∷ fs) (does (claims k v))) refl (claim_stop (parcel t k) (variable t (length fs) v) (first_held (parcel t k) st.edges))
  line_tells f fs (packs w k v) e = quiet (action_in s (facts_of st) t (f ∷ fs) (does (packs w k v))) (step_of s t st (f ∷ fs) (does (packs w k v))) refl (pack_stop (packed_holder t (length fs) v) (parcel w k) (object_at f.bindings v))
  line_tells f fs (says x) e = statement_tells (length fs) x (site_in s f (says x)) (line_written s f x e)

  frame_tells : (P : Callee → Type 0) (f : Frame) (fs : List Frame) (d : Demand) → Asks P s (facts_of st) t f d
      → Acted (f ∷ fs) d
  frame_tells P f fs _ (asks_call k c e inside) = quiet (action_in s (facts_of st) t (f ∷ fs) (calls k c)) (step_of s t st (f ∷ fs) (calls k c)) refl refl
  frame_tells P f fs _ (asks_line x e) = line_tells f fs x e
  frame_tells P f fs _ (asks_end e) = quiet actions.Done (step_of s t st (f ∷ fs) ends) refl refl
  frame_tells P f fs _ (asks_return k e) = quiet actions.Return (step_of s t st (f ∷ fs) returns) refl refl
  frame_tells P f fs _ (asks_phase r p e due h) = quiet (phase_action p) (phase_step st t p f.kind) (phase_unwritten p) (phase_stop p f.kind)
  frame_tells P f fs _ (asks_close r e h) = quiet (action_in s (facts_of st) t (f ∷ fs) closes) (close_step st f.kind) refl (close_stop f.kind)

  work_tells : (fs : List Frame) (work : List Work) (d : Demand) → WorkView (facts_of st) work d → Acted fs d
  work_tells fs work _ (first_owes o h) = quiet (action_in s (facts_of st) t fs (owes o)) (step_of s t st fs (owes o)) refl refl
  work_tells fs work _ (first_spends j h) = quiet (action_in s (facts_of st) t fs (spends j)) (step_of s t st fs (spends j)) refl (spend_stop j (thing_at st.parts j))
  work_tells fs work _ (first_drops b k o e h) = quiet (action_in s (facts_of st) t fs (drops b k o)) (step_of s t st fs (drops b k o)) refl refl

  pub stop_tells : (P : Callee → Type 0) (stand : Stand) (d : Demand) → StandAsks P s (facts_of st) t stand d
      → Acted stand.frames d
  stop_tells P stand d (asks_work _ view) = work_tells stand.frames stand.work d view
  stop_tells P stand d (asks_frame _ f fs same view) = subst (λ (gs : List Frame). Acted gs d) (sym same) (frame_tells P f fs d view)
