-- What a legal entry says of items is what it does to them.
use Rattle.std.proofs.Common.{◌≡◌, ℕ, Bool, true, false, cond, ◌||◌, List, ◌∷◌, length, Option, Some, None, eqb, refl, sym, subst}
use Rattle.std.specs.Prelude.{slice_get}
use Rattle.cf_ids.specs.declared.answer.Answer.{Answer}
use Rattle.cf_ids.specs.declared.answer.Answer.TheVariants as answers
use Rattle.rl_base.specs.Dates.{has_come, earlier}
use Rattle.rl_turn.specs.declared.phases.Phase.{Phase}
use Rattle.rl_turn.specs.declared.phases.Phase.TheVariants as phases
use Rattle.cf_syntax.specs.declared.script.Script.{Script}
use Rattle.cf_syntax.specs.BlockLines.{BlockLine, begins, claims, says, packs}
use Rattle.cf_graph.specs.Holders.{Holder, variable, parcel, owed}
use Rattle.cf_next.specs.declared.action.Action.TheVariants as actions
use Rattle.cf_next.specs.Facts.{Callout}
use Rattle.cf_next.specs.Stands.{Role, as_observer, as_source, as_timer, as_receiver, item_of, Turn, Kind, of_block, of_handler, of_run, Frame, Work, Stand}
use Rattle.cf_next.specs.Demands.{Demand, does, returns, spends, drops, item_fits, callout_of, frame_lines}
use Rattle.cf_next.specs.Next.{object_at, site_in, phase_action, action_in}
use Rattle.cf_model.specs.Finals.{bound_in}
use Rattle.cf_model.specs.Known.{facts_of}
use Rattle.cf_model.specs.State.{State, awake, until, is_made, flags_at, first_held}
use Rattle.cf_model.specs.Things.{Thing, thing_at, callout_of_thing, mode_date}
use Rattle.cf_model.specs.Own.{own_reference}
use Rattle.cf_model.specs.Deals.{okay, invalidate_deal}
use Rattle.cf_model.specs.Steps.{Step, idle, step_of, start_all, end_step, claim_step, pack_step, packed_holder, sleeping, unwoken_step, turn_step, phase_step, close_step, result_answer, call_step, fire, spend_if}
use Rattle.cf_model.proofs.Views.{FrameView, StandView, WorkView, first_drops, first_owes, first_spends, is_call, is_close, is_end, is_line, is_phase, is_return, of_frame, of_work}
use Rattle.cf_history.proofs.ItemLaws.{Tells}
use Rattle.cf_history.proofs.ItemSteps.{event, ends_tell, stays_ended, no_item_ends, fires_tell}
use Rattle.cf_history.proofs.StepLaws.{QuietAction, QuietStep, StepTells, quiet_step, still_step, statement_tells, cut_unbound, cut_quiet}
use Rattle.cf_history.proofs.WrittenLaws.{line_written}

module _ (s : Script) (i t : ℕ) (st : State) where
  abbrev Quiets : Step → Type 0
  Quiets step = QuietStep s i t st step

  claim_quiet : (h k : Holder) (object : Option ℕ) → Quiets (claim_step st h object k)
  claim_quiet h k None = still_step s i t st _ refl refl refl
  claim_quiet h k (Some o) = still_step s i t st _ refl refl refl

  pack_quiet : (h k : Holder) (object : Option ℕ) → Quiets (pack_step t st h object k)
  pack_quiet h k None = still_step s i t st _ refl refl refl
  pack_quiet h k (Some o) = still_step s i t st _ refl refl refl

  end_quiet : Quiets (end_step t st)
  end_quiet = by (eqb t 0)
    where
      by : (b : Bool)
          → Quiets (record (idle st answers.Ok) { parts = cond b (record st.parts { flags = start_all st.parts.flags }) st.parts })
      by true = still_step s i t st _ refl refl refl
      by false = still_step s i t st _ refl refl refl

  either_quiet : (b : Bool) (x y : Step) → Quiets x → Quiets y → Quiets (cond b x y)
  either_quiet true x y h k = h
  either_quiet false x y h k = k

  result_quiet : (r : Option ℕ) → Quiets (idle st (result_answer r))
  result_quiet None = still_step s i t st _ refl refl refl
  result_quiet (Some n) = still_step s i t st _ refl refl refl

  turn_quiet : (r : Turn) (p : Phase) → Quiets (turn_step st t r p)
  turn_quiet r phases.Sleep =
      let date = mode_date st t r.mode in
      let least = earlier r.deadline date in
      either_quiet (flags_at t st.parts.flags).is_woken (sleeping st t answers.Woken awake) (unwoken_step st t r) (still_step s i t st _ refl refl refl)
      (either_quiet (has_come r.deadline st.parts.time || has_come date st.parts.time) (idle st answers.Due) (sleeping st t (answers.Asleep least) (until least)) (still_step s i t st _ refl refl refl) (still_step s i t st _ refl refl refl))
  turn_quiet r phases.Test = result_quiet _
  turn_quiet r p = still_step s i t st _ refl refl refl

  phase_quiet : (p : Phase) (k : Kind) → Quiets (phase_step st t p k)
  phase_quiet p (of_run r) = turn_quiet r p
  phase_quiet p of_block = still_step s i t st _ refl refl refl
  phase_quiet p (of_handler k) = still_step s i t st _ refl refl refl

  close_quiet : (k : Kind) → Quiets (close_step st k)
  close_quiet (of_run r) = result_quiet r.result
  close_quiet of_block = still_step s i t st _ refl refl refl
  close_quiet (of_handler k) = still_step s i t st _ refl refl refl

  phase_says_nothing : (p : Phase) → QuietAction s (phase_action p)
  phase_says_nothing (phases.Note a) = record { unsignalled = refl; uncalled = refl; item = refl; source = refl; unended = refl; timing = refl; time = λ m. refl }
  phase_says_nothing phases.Sources = record { unsignalled = refl; uncalled = refl; item = refl; source = refl; unended = refl; timing = refl; time = λ m. refl }
  phase_says_nothing phases.Timers = record { unsignalled = refl; uncalled = refl; item = refl; source = refl; unended = refl; timing = refl; time = λ m. refl }
  phase_says_nothing phases.Sleep = record { unsignalled = refl; uncalled = refl; item = refl; source = refl; unended = refl; timing = refl; time = λ m. refl }
  phase_says_nothing phases.Test = record { unsignalled = refl; uncalled = refl; item = refl; source = refl; unended = refl; timing = refl; time = λ m. refl }
  phase_says_nothing phases.Ran = record { unsignalled = refl; uncalled = refl; item = refl; source = refl; unended = refl; timing = refl; time = λ m. refl }

  -- ---- callouts

  callout_thing : (x : Option Thing) (c : Callout) → callout_of_thing x ≡ Some c → (y : Thing) × (x ≡ Some y)
  callout_thing None c e = absurd cc
  callout_thing (Some y) c e = (y, refl)

  run_callout : (b : Bool) (x : Option Thing) (c : Callout) → cond b (callout_of_thing x) None ≡ Some c
      → (y : Thing) × (x ≡ Some y)
  run_callout true x c e = callout_thing x c e
  run_callout false x c e = absurd cc

  -- what is called as an item is one
  pub called_thing : (k : Kind) (role : Role) (n : ℕ) (c : Callout) → (role ≡ as_receiver → ⊥)
      → callout_of (facts_of st) t k role n ≡ Some c → (y : Thing) × (thing_at st.parts n ≡ Some y)
  called_thing (of_run r) as_observer n c h e = run_callout (item_fits (facts_of st) t r as_observer n) (thing_at st.parts n) c e
  called_thing (of_run r) as_source n c h e = run_callout (item_fits (facts_of st) t r as_source n) (thing_at st.parts n) c e
  called_thing (of_run r) as_timer n c h e = run_callout (item_fits (facts_of st) t r as_timer n) (thing_at st.parts n) c e
  called_thing k as_receiver n c h e = absurd (h refl)
  called_thing of_block as_observer n c h e = absurd cc
  called_thing of_block as_source n c h e = absurd cc
  called_thing of_block as_timer n c h e = absurd cc
  called_thing (of_handler k) as_observer n c h e = absurd cc
  called_thing (of_handler k) as_source n c h e = absurd cc
  called_thing (of_handler k) as_timer n c h e = absurd cc

  fire_tells : (h n a : ℕ) (info : Option ℕ) (answer : Answer) → bound_in answer ≡ None
      → (y : Thing) × (thing_at st.parts n ≡ Some y)
      → Tells s i (event t (actions.Call h (Some n) info) answer) st.parts (fire st.parts n (thing_at st.parts n))
  fire_tells h n a info answer none q =
      let y = q.0 in
      let tells = fires_tell s i t n st.parts (actions.Call h (Some n) info) answer y (refl, refl, refl, refl, refl, (λ m. refl), refl) none q.1 in
      subst (λ (x : Option Thing). Tells s i (event t (actions.Call h (Some n) info) answer) st.parts (fire st.parts n x)) (sym q.1) tells

  call_tells : (d : ℕ) (kind : Kind) (role : Role) (n : ℕ) (c : Callout)
      → callout_of (facts_of st) t kind role n ≡ Some c
      → StepTells s i t st (actions.Call c.handler (item_of (record { role = role; number = n })) c.info) (call_step t d st kind (record { role = role; number = n }) c)
  call_tells d kind as_receiver n c e = quiet_step s i t st _ _ (record { unsignalled = refl; uncalled = refl; item = refl; source = refl; unended = refl; timing = refl; time = λ m. refl }) (still_step s i t st (call_step t d st kind (record { role = as_receiver; number = n }) c) refl refl refl)
  call_tells d kind as_observer n c e = fire_tells c.handler n 0 c.info _ refl (called_thing kind as_observer n c (λ z. absurd cc) e)
  call_tells d kind as_source n c e = fire_tells c.handler n 0 c.info _ refl (called_thing kind as_source n c (λ z. absurd cc) e)
  call_tells d kind as_timer n c e = fire_tells c.handler n 0 c.info _ refl (called_thing kind as_timer n c (λ z. absurd cc) e)

  -- ---- an item that is spent

  spend_by : (j : ℕ) (x : Option Thing) → is_made st.parts j ≡ true → thing_at st.parts j ≡ x
      → Tells s i (event t (actions.Spend j) (spend_if s st j x).answer) st.parts (spend_if s st j x).parts
  spend_by j None made was = no_item_ends s i t j st.parts (actions.Spend j) (refl, refl, refl, refl, refl, (λ m. refl), refl) was made
  spend_by j (Some x) made was = by x.valid refl
    where
      by : (b : Bool) → x.valid ≡ b
          → Tells s i (event t (actions.Spend j) (cond b (invalidate_deal s st j x) (okay st.parts)).answer) st.parts (cond b (invalidate_deal s st j x) (okay st.parts)).parts
      by false e = stays_ended s i t j st.parts (actions.Spend j) x (refl, refl, refl, refl, refl, (λ m. refl), refl) was e
      by true e = rw e (ends_tell s i t j st.parts (actions.Spend j) x (refl, refl, refl, refl, refl, (λ m. refl), refl) was)

  -- ---- what each demand says

  abbrev Acted : List Frame → Demand → Type 0
  Acted fs d = StepTells s i t st (action_in s (facts_of st) t fs d) (step_of s t st fs d)

  line_tells : (f : Frame) (fs : List Frame) (x : BlockLine)
      → slice_get (frame_lines s f.kind f.block) f.number ≡ Some x → Acted (f ∷ fs) (does x)
  line_tells f fs (begins v) e = quiet_step s i t st _ _ (record { unsignalled = refl; uncalled = refl; item = refl; source = refl; unended = refl; timing = refl; time = λ m. refl }) (still_step s i t st (step_of s t st (f ∷ fs) (does (begins v))) refl refl refl)
  line_tells f fs (claims k v) e = quiet_step s i t st _ _ (record { unsignalled = refl; uncalled = refl; item = refl; source = refl; unended = refl; timing = refl; time = λ m. refl }) (claim_quiet (parcel t k) (variable t (length fs) v) (first_held (parcel t k) st.edges))
  line_tells f fs (packs u k v) e = quiet_step s i t st _ _ (record { unsignalled = refl; uncalled = refl; item = refl; source = refl; unended = refl; timing = refl; time = λ m. refl }) (pack_quiet (packed_holder t (length fs) v) (parcel u k) (object_at f.bindings v))
  line_tells f fs (says x) e = statement_tells s i t st (length fs) x (site_in s f (says x)) (line_written s f x e)

  frame_tells : (f : Frame) (fs : List Frame) (d : Demand) → FrameView s (facts_of st) t f d → Acted (f ∷ fs) d
  frame_tells f fs _ (is_call k c e) = call_tells (length (f ∷ fs)) f.kind k.role k.number c e
  frame_tells f fs _ (is_line x e) = line_tells f fs x e
  frame_tells f fs _ (is_end e) = quiet_step s i t st _ _ (record { unsignalled = refl; uncalled = refl; item = refl; source = refl; unended = refl; timing = refl; time = λ m. refl }) end_quiet
  frame_tells f fs _ (is_return k e last) = quiet_step s i t st _ _ (record { unsignalled = refl; uncalled = refl; item = refl; source = refl; unended = refl; timing = refl; time = λ m. refl }) (still_step s i t st (step_of s t st (f ∷ fs) returns) refl refl refl)
  frame_tells f fs _ (is_phase r p e) = quiet_step s i t st _ _ (phase_says_nothing p) (phase_quiet p f.kind)
  frame_tells f fs _ (is_close r e) = quiet_step s i t st _ _ (record { unsignalled = refl; uncalled = refl; item = refl; source = refl; unended = refl; timing = refl; time = λ m. refl }) (close_quiet f.kind)

  -- what is spent was made
  abbrev pub SpendsMade : Demand → Type 0
  SpendsMade (spends j) = is_made st.parts j ≡ true
  SpendsMade _ = Unit {0}

  work_tells : (fs : List Frame) (work : List Work) (d : Demand) → SpendsMade d → WorkView (facts_of st) work d
      → Acted fs d
  work_tells fs work _ made (first_owes o h) = quiet_step s i t st _ _ (record { unsignalled = refl; uncalled = refl; item = refl; source = refl; unended = refl; timing = refl; time = λ m. refl }) (cut_quiet s i t st (owed t) o (own_reference t (owed t) o st.edges))
  work_tells fs work _ made (first_spends j h) = spend_by j (thing_at st.parts j) made refl
  work_tells fs work _ made (first_drops b k o e h) = quiet_step s i t st _ _ (record { unsignalled = refl; uncalled = refl; item = refl; source = refl; unended = refl; timing = refl; time = λ m. refl }) (still_step s i t st (step_of s t st fs (drops b k o)) refl refl (cut_unbound s i t st (Some o) st.parts.objects _ answers.Ok refl))

  pub demand_tells : (stand : Stand) (d : Demand) → SpendsMade d → StandView s (facts_of st) t stand d
      → Acted stand.frames d
  demand_tells stand d made (of_work e view) = work_tells stand.frames stand.work d made view
  demand_tells stand d made (of_frame f fs e same view) = subst (λ (gs : List Frame). Acted gs d) (sym same) (frame_tells f fs d view)
