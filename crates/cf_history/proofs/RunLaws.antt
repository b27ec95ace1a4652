-- Along every legal journal of every script: the runs that the entries show as open are those of the state's frames.
use Rattle.std.proofs.Common.{◌≡◌, ℕ, Bool, true, false, cond, ◌&&◌, not, List, [], ◌∷◌, ◌++◌, drop, Option, Some, None, refl, sym, ap, ◌∙◌, subst}
use Rattle.std.specs.Prelude.{slice_get, is_some}
use Rattle.std.proofs.lemmas.Bool.{and_parts}
use Rattle.cf_ids.specs.declared.answer.Answer.{Answer}
use Rattle.rl_base.specs.Dates.{has_come}
use Rattle.rl_turn.specs.declared.phases.Phase.{Phase}
use Rattle.rl_turn.specs.declared.phases.Phase.TheVariants as phases
use Rattle.cf_syntax.specs.declared.script.Script.{Script}
use Rattle.cf_syntax.specs.declared.statement.Statement.{Statement}
use Rattle.cf_syntax.specs.declared.statement.Statement.TheVariants as forms
use Rattle.cf_syntax.specs.BlockLines.{BlockLine, begins, claims, says, packs}
use Rattle.cf_contents.specs.Items.{Item, source_item, timer_item, observer_item, is_signalled_item, date_in}
use Rattle.cf_next.specs.Actions.{Site, action_of}
use Rattle.cf_next.specs.Facts.{Callout, Facts}
use Rattle.cf_next.specs.Stands.{Role, as_observer, as_source, as_timer, as_receiver, Turn, Kind, of_block, of_handler, of_run, Frame, Work, Stand}
use Rattle.cf_next.specs.Turns.{test_result, turn_after, kind_after}
use Rattle.cf_next.specs.Demands.{Demand, does, calls, role_fits, item_fits, callout_of, frame_lines}
use Rattle.cf_next.specs.Next.{site_in, phase_action, action_in}
use Rattle.cf_next.specs.Advance.{frames_after, is_entered, deadline_of, line_done, kind_called, run_frames}
use Rattle.cf_model.specs.declared.entry.Entry.{Entry}
use Rattle.cf_model.specs.Known.{facts_of}
use Rattle.cf_model.specs.State.{State}
use Rattle.cf_model.specs.Things.{Thing, thing_at, is_signalled_thing, date_of_thing}
use Rattle.cf_model.specs.Steps.{step_of, step_answer, result_answer, phase_step}
use Rattle.cf_model.proofs.Views.{WorkView, first_drops, first_owes, first_spends}
use Rattle.cf_history.specs.Written.{statement_of}
use Rattle.cf_history.specs.History.{is_source_after}
use Rattle.cf_history.specs.Timing.{time_after}
use Rattle.cf_history.specs.OpenRuns.{begun, result_in, in_phase, with_source, innermost, runs_own}
use Rattle.cf_history.proofs.ItemLaws.{is_source_item, is_source_thing}
use Rattle.cf_history.proofs.ItemSteps.{event}
use Rattle.cf_history.proofs.WrittenLaws.{line_written}
use Rattle.cf_history.proofs.Along.{Agrees}
use Rattle.cf_history.proofs.RunViews.{Asks, asks_call, asks_line, asks_end, asks_return, asks_phase, asks_close, StandAsks, asks_work, asks_frame}
use Rattle.cf_history.proofs.RoleLaws.{IsInRole}

-- the runs of frames
abbrev pub run_in : Kind → List Turn
run_in (of_run r) = r ∷ []
run_in _ = []

abbrev pub runs_in : List Frame → List Turn
runs_in [] = []
runs_in (f ∷ fs) = run_in f.kind ++ runs_in fs

result_told : (o : Option ℕ) → result_in (result_answer o) ≡ o
result_told None = refl
result_told (Some n) = refl

signalled_source : (x : Option Thing) → is_signalled_thing x ≡ true → is_source_thing x ≡ true
signalled_source None e = absurd cc
signalled_source (Some x) e = by x.item e
  where
    by : (item : Item) → is_signalled_item item ≡ true → is_source_item item ≡ true
    by (source_item order on) e = refl
    by (timer_item first interval date) e = absurd cc
    by (observer_item mask repeats order) e = absurd cc

dated_timer : (x : Option Thing) (now : ℕ) → has_come (date_of_thing x) now ≡ true → is_source_thing x ≡ false
dated_timer None now e = refl
dated_timer (Some x) now e = by x.item e
  where
    by : (item : Item) → has_come (date_in item) now ≡ true → is_source_item item ≡ false
    by (source_item order on) e = absurd cc
    by (timer_item first interval date) e = refl
    by (observer_item mask repeats order) e = refl

module _ (s : Script) (es : List Entry) (t : ℕ) (st : State) (agrees : Agrees s es st) where
  abbrev facts : Facts
  facts = facts_of st

  -- what a demand does to the runs of its thread is what its entry says
  abbrev Own : List Frame → Demand → Answer → List ℕ → Type 0
  Own fs d answer list = runs_in (frames_after facts t d answer list fs) ≡ runs_own s es (event t (action_in s facts t fs d) answer) (runs_in fs)

  run_statement : (m : ℕ) (limit : Option ℕ) (once : Bool) (fs : List Turn) (b : Bool) (gs : List Frame)
      → runs_in gs ≡ fs
      → runs_in (run_frames st.parts.time (says (forms.Run m limit once)) b ++ gs) ≡ cond b (record { mode = m; once = once; deadline = deadline_of (time_after es) limit; last = None; handled = false; stopped = false; result = None } ∷ []) [] ++ fs
  run_statement m limit once fs true gs e = ap (λ (n : ℕ). record { mode = m; once = once; deadline = deadline_of n limit; last = None; handled = false; stopped = false; result = None } ∷ runs_in gs) agrees.time ∙ ap (λ (rs : List Turn). record { mode = m; once = once; deadline = deadline_of (time_after es) limit; last = None; handled = false; stopped = false; result = None } ∷ rs) e
  run_statement m limit once fs false gs e = e

  statement_own : (f : Frame) (fs : List Frame) (answer : Answer) (list : List ℕ) (x : Statement) (site : Site)
      → statement_of s (action_of x site) ≡ Some x
      → runs_in (run_frames st.parts.time (says x) (is_entered answer) ++ line_done facts t (says x) answer list f ∷ fs) ≡ runs_own s es (event t (action_of x site) answer) (runs_in (f ∷ fs))
  statement_own f fs answer list (forms.Run m limit once) site e =
      run_statement m limit once (runs_in (f ∷ fs)) (is_entered answer) (line_done facts t (says (forms.Run m limit once)) answer list f ∷ fs) refl
      ∙ ap (λ (w : Option Statement). begun (time_after es) w answer ++ runs_in (f ∷ fs)) (sym e)
  statement_own f fs answer list x site e = ap (λ (w : Option Statement). begun (time_after es) w answer ++ runs_in (f ∷ fs)) (sym e)

  line_own : (f : Frame) (fs : List Frame) (answer : Answer) (list : List ℕ) (x : BlockLine)
      → slice_get (frame_lines s f.kind f.block) f.number ≡ Some x → Own (f ∷ fs) (does x) answer list
  line_own f fs answer list (begins v) e = refl
  line_own f fs answer list (claims k v) e = refl
  line_own f fs answer list (packs u k v) e = refl
  line_own f fs answer list (says x) e = statement_own f fs answer list x (site_in s f (says x)) (line_written s f x e)

  -- ---- callouts

  kept_kind : (role : Role) (k : Kind) → (role ≡ as_source → ⊥) → run_in (kind_called role k) ≡ run_in k
  kept_kind as_source k h = absurd (h refl)
  kept_kind as_observer (of_run r) h = refl
  kept_kind as_timer (of_run r) h = refl
  kept_kind as_receiver (of_run r) h = refl
  kept_kind as_observer of_block h = refl
  kept_kind as_timer of_block h = refl
  kept_kind as_receiver of_block h = refl
  kept_kind as_observer (of_handler k) h = refl
  kept_kind as_timer (of_handler k) h = refl
  kept_kind as_receiver (of_handler k) h = refl

  not_source : (n : ℕ) (rs : List Turn) → is_source_thing (thing_at st.parts n) ≡ false
      → cond (is_source_after es n) (innermost with_source rs) rs ≡ rs
  not_source n rs e = ap (λ (b : Bool). cond b (innermost with_source rs) rs) (sym (agrees.source n) ∙ e)

  some_if : (b : Bool) (o : Option Callout) (c : Callout) → cond b o None ≡ Some c → b ≡ true
  some_if true o c e = refl
  some_if false o c e = absurd cc

  -- what is called as an item by a run fits
  pub run_fits : (r : Turn) (role : Role) (n : ℕ) (c : Callout) → (role ≡ as_receiver → ⊥)
      → callout_of facts t (of_run r) role n ≡ Some c → item_fits facts t r role n ≡ true
  run_fits r as_observer n c h e = some_if (item_fits facts t r as_observer n) (facts.callout n) c e
  run_fits r as_source n c h e = some_if (item_fits facts t r as_source n) (facts.callout n) c e
  run_fits r as_timer n c h e = some_if (item_fits facts t r as_timer n) (facts.callout n) c e
  run_fits r as_receiver n c h e = absurd (h refl)

  pub role_holds : (r : Turn) (role : Role) (n : ℕ) → item_fits facts t r role n ≡ true
      → role_fits facts r role n ≡ true
  role_holds r role n e = (and_parts (facts.is_valid n) (role_fits facts r role n) (and_parts (facts.holds t r.mode n) (facts.is_valid n && role_fits facts r role n) e).1).1

  source_own : (f : Frame) (fs : List Frame) (n : ℕ) (c : Callout) (k : Kind) → f.kind ≡ k
      → callout_of facts t k as_source n ≡ Some c
      → run_in (kind_called as_source k) ++ runs_in fs ≡ cond (is_source_after es n) (innermost with_source (run_in k ++ runs_in fs)) (run_in k ++ runs_in fs)
  source_own f fs n c (of_run r) e q =
      let fits = role_holds r as_source n (run_fits r as_source n c (λ z. absurd cc) q) in
      let lit = (and_parts (is_signalled_thing (thing_at st.parts n)) (not (r.once && r.handled)) fits).0 in
      ap (λ (b : Bool). cond b (with_source r ∷ runs_in fs) (r ∷ runs_in fs)) (sym (sym (agrees.source n) ∙ signalled_source (thing_at st.parts n) lit))
  source_own f fs n c of_block e q = absurd cc
  source_own f fs n c (of_handler k) e q = absurd cc

  pub timer_dated : (k : Kind) (n : ℕ) (c : Callout) → callout_of facts t k as_timer n ≡ Some c
      → is_source_thing (thing_at st.parts n) ≡ false
  timer_dated (of_run r) n c e = dated_timer (thing_at st.parts n) st.parts.time (role_holds r as_timer n (run_fits r as_timer n c (λ z. absurd cc) e))
  timer_dated of_block n c e = absurd cc
  timer_dated (of_handler k) n c e = absurd cc

  call_own : (f : Frame) (fs : List Frame) (answer : Answer) (list : List ℕ) (role : Role) (n : ℕ) (c : Callout)
      → callout_of facts t f.kind role n ≡ Some c → IsInRole st.parts (record { role = role; number = n })
      → Own (f ∷ fs) (calls (record { role = role; number = n }) c) answer list
  call_own f fs answer list as_receiver n c e inside = ap (λ (rs : List Turn). rs ++ runs_in fs) (kept_kind as_receiver f.kind (λ z. absurd cc))
  call_own f fs answer list as_observer n c e inside = ap (λ (rs : List Turn). rs ++ runs_in fs) (kept_kind as_observer f.kind (λ z. absurd cc)) ∙ sym (not_source n (runs_in (f ∷ fs)) (inside refl).1)
  call_own f fs answer list as_timer n c e inside = ap (λ (rs : List Turn). rs ++ runs_in fs) (kept_kind as_timer f.kind (λ z. absurd cc)) ∙ sym (not_source n (runs_in (f ∷ fs)) (timer_dated f.kind n c e))
  call_own f fs answer list as_source n c e inside = source_own f fs n c f.kind refl e

  -- ---- phases

  test_own : (r : Turn) (fs : List Turn)
      → turn_after facts t phases.Test r ∷ fs ≡ in_phase phases.Test (result_answer (test_result facts t r)) r ∷ fs
  test_own r fs = ap (λ (o : Option ℕ). record r { last = Some phases.Test; result = o; handled = cond (is_some o) r.handled false } ∷ fs) (sym (result_told (test_result facts t r)))

  abbrev OwnPhase : Frame → List Frame → Kind → Phase → Answer → List ℕ → Type 0
  OwnPhase f fs k p answer list = run_in (kind_after facts t p k) ++ runs_in fs ≡ runs_own s es (event t (phase_action p) answer) (run_in k ++ runs_in fs)

  phase_own : (f : Frame) (fs : List Frame) (list : List ℕ) (r : Turn) (p : Phase) → (p ≡ phases.Ran → ⊥)
      → OwnPhase f fs (of_run r) p (step_answer (phase_step st t p (of_run r)) st) list
  phase_own f fs list r phases.Ran h = absurd (h refl)
  phase_own f fs list r phases.Test h = test_own r (runs_in fs)
  phase_own f fs list r (phases.Note a) h = refl
  phase_own f fs list r phases.Sources h = refl
  phase_own f fs list r phases.Timers h = refl
  phase_own f fs list r phases.Sleep h = refl

  -- ---- what each demand does

  frame_own : (f : Frame) (fs : List Frame) (d : Demand) (list : List ℕ) → Asks (IsInRole st.parts) s facts t f d
      → Own (f ∷ fs) d (step_answer (step_of s t st (f ∷ fs) d) st) list
  frame_own f fs _ list (asks_call k c e inside) = call_own f fs _ list k.role k.number c e inside
  frame_own f fs _ list (asks_line x e) = line_own f fs _ list x e
  frame_own f fs _ list (asks_end e) = refl
  frame_own f fs _ list (asks_return k e) = ap (λ (q : Kind). run_in q ++ runs_in fs) (sym e)
  frame_own f fs _ list (asks_phase r p e due h) = subst (λ (q : Kind). OwnPhase f fs q p (step_answer (phase_step st t p q) st) list) (sym e) (phase_own f fs list r p h)
  frame_own f fs _ list (asks_close r e h) = ap (λ (q : Kind). drop 1 (run_in q ++ runs_in fs)) (sym e)

  work_own : (fs : List Frame) (work : List Work) (d : Demand) (answer : Answer) (list : List ℕ) → WorkView facts work d
      → Own fs d answer list
  work_own fs work _ answer list (first_owes o h) = refl
  work_own fs work _ answer list (first_spends j h) = refl
  work_own fs work _ answer list (first_drops b k o e h) = refl

  pub demand_own : (stand : Stand) (d : Demand) (list : List ℕ) → StandAsks (IsInRole st.parts) s facts t stand d
      → Own stand.frames d (step_answer (step_of s t st stand.frames d) st) list
  demand_own stand d list (asks_work _ view) = work_own stand.frames stand.work d _ list view
  demand_own stand d list (asks_frame _ f fs same view) = subst (λ (gs : List Frame). Own gs d (step_answer (step_of s t st gs d) st) list) (sym same) (frame_own f fs d list view)
