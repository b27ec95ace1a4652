-- Every legal journal of every script: the entries of each run follow the turn's table.
use Rattle.std.proofs.Common.{◌≡◌, ◌⊎◌, ℕ, Bool, true, false, cond, List, [], ◌∷◌, ◌++◌, append_assoc, append-nil, drop, Option, Some, None, eqb, refl, sym, ap, ◌∙◌, subst, inl, inr}
use Rattle.std.specs.Prelude.{◌||◌, find, is_some}
use Rattle.std.specs.Option.{option_map}
use Rattle.cf_ids.specs.declared.answer.Answer.{Answer}
use Rattle.cf_ids.specs.declared.answer.Answer.TheVariants as answers
use Rattle.rl_base.specs.Dates.{has_come}
use Rattle.rl_turn.specs.declared.phases.Phase.{Phase}
use Rattle.rl_turn.specs.declared.phases.Phase.TheVariants as phases
use Rattle.rl_turn.specs.declared.phases.TurnFacts.{TurnFacts}
use Rattle.rl_turn.specs.Turn.{Row, rows, same_phase, next_of, result_of}
use Rattle.cf_syntax.specs.declared.script.Script.{Script}
use Rattle.cf_syntax.specs.declared.statement.Statement.{Statement}
use Rattle.cf_syntax.specs.declared.statement.Statement.TheVariants as forms
use Rattle.cf_syntax.specs.BlockLines.{BlockLine, begins, claims, says, packs}
use Rattle.cf_next.specs.declared.action.Action.{Action}
use Rattle.cf_next.specs.declared.action.Action.TheVariants as actions
use Rattle.cf_next.specs.Actions.{Site, action_of}
use Rattle.cf_next.specs.Facts.{Facts}
use Rattle.cf_next.specs.Stands.{Turn, Kind, of_run, Frame, Work}
use Rattle.cf_next.specs.Turns.{turn_facts, test_result, phase_due}
use Rattle.cf_next.specs.Demands.{Demand, does}
use Rattle.cf_next.specs.Next.{site_in, phase_action, action_in}
use Rattle.cf_next.specs.Advance.{is_entered}
use Rattle.cf_model.specs.declared.entry.Entry.{Entry}
use Rattle.cf_model.specs.Known.{facts_of}
use Rattle.cf_model.specs.State.{State, start, stand_at}
use Rattle.cf_model.specs.Things.{is_empty_mode}
use Rattle.cf_model.specs.Steps.{answer_if, frames_at, step_of, step_answer, result_answer, phase_step, close_step}
use Rattle.cf_model.specs.Journals.{After, after_action, IsLegalAs, IsLegalEntry, IsLegal}
use Rattle.cf_model.proofs.Acting.{next_is}
use Rattle.cf_model.proofs.Entries.{ActionView, is_tick, is_stall, is_step, action_view}
use Rattle.cf_model.proofs.Finality.{IsLegalPart}
use Rattle.cf_model.proofs.Views.{WorkView, first_drops, first_owes, first_spends}
use Rattle.cf_history.specs.Written.{statement_of}
use Rattle.cf_history.specs.History.{is_source_after}
use Rattle.cf_history.specs.Timing.{time_after}
use Rattle.cf_history.specs.OpenRuns.{begun, in_phase, with_source, with_stop, innermost, runs_with, runs_own, stops, runs_after, open_runs, turn_facts_after, phase_in, IsNextPhase, answer_to_test, AnswersPhase, TurnsFit}
use Rattle.cf_history.proofs.ItemSteps.{event}
use Rattle.cf_history.proofs.RunViews.{Asks, asks_call, asks_line, asks_end, asks_return, asks_phase, asks_close, StandAsks, asks_work, asks_frame}
use Rattle.cf_history.proofs.RoleLaws.{IsInRole}
use Rattle.cf_history.proofs.RunLaws.{run_in, runs_in}
use Rattle.cf_history.proofs.RunsAlong.{Holds, asks_in_role, holds_more, holds_along, runs_more}
use Rattle.cf_history.proofs.CalloutLaws.{legal_front}

-- ---- the table

-- a phase after which another one comes
abbrev pub HasNext : Phase → Type 0
HasNext q = (g : TurnFacts) → next_of g q ≡ None → ⊥

abbrev EndsOrHasNext : Phase → Type 0
EndsOrHasNext p = (p ≡ phases.Ran) ⊎ HasNext p

abbrev AllRows : (Row → Type 0) → List Row → Type 0
AllRows P [] = Unit {0}
AllRows P (r ∷ rs) = P r × AllRows P rs

found_row : (P : Row → Type 0) (test : Row → Bool) (rs : List Row) (r : Row) → AllRows P rs → find test rs ≡ Some r
    → P r
found_row P test [] r h e = absurd cc
found_row P test (x ∷ rs) r h e = by (test x) e (found_row P test rs r h.1)
  where
    by : (b : Bool) → cond b (Some x) (find test rs) ≡ Some r → (find test rs ≡ Some r → P r) → P r
    by true e rest = let same : x ≡ r = cc in subst P same h.0
    by false e rest = rest e

abbrev RowGoes : Row → Type 0
RowGoes r = (f : TurnFacts) → EndsOrHasNext (r.next f)

either_phase : (b : Bool) (p q : Phase) → EndsOrHasNext p → EndsOrHasNext q → EndsOrHasNext (cond b p q)
either_phase true p q h k = h
either_phase false p q h k = k

note_2 : HasNext (phases.Note 2)
note_2 g e = absurd cc

note_4 : HasNext (phases.Note 4)
note_4 g e = absurd cc

note_32 : HasNext (phases.Note 32)
note_32 g e = absurd cc

note_64 : HasNext (phases.Note 64)
note_64 g e = absurd cc

note_128 : HasNext (phases.Note 128)
note_128 g e = absurd cc

note_1 : HasNext (phases.Note 1)
note_1 g e = absurd cc

sources : HasNext phases.Sources
sources g e = absurd cc

timers : HasNext phases.Timers
timers g e = absurd cc

sleep : HasNext phases.Sleep
sleep g e = absurd cc

test : HasNext phases.Test
test g e = absurd cc

all_rows : AllRows RowGoes rows
all_rows = (
  λ f. inr note_2,
  (
    λ f. inr note_4,
    (
      λ f. inr sources,
      (
        λ f. either_phase (f.handled || f.past) phases.Timers (phases.Note 32) (inr timers) (inr note_32),
        (
          λ f. inr sleep,
          (
            λ f. inr note_64,
            (
              λ f. inr timers,
              (
                λ f. inr test,
                (
                  λ f. either_phase (is_some (result_of f)) (phases.Note 128) (phases.Note 2) (inr note_128) (inr note_2),
                  (λ f. inl refl, tt),
                ),
              ),
            ),
          ),
        ),
      ),
    ),
  ),
)

next_goes : (f : TurnFacts) (q p : Phase) → next_of f q ≡ Some p → EndsOrHasNext p
next_goes f q p e = by (find (λ r. same_phase q r.phase) rows) refl e
  where
    by : (found : Option Row) → find (λ r. same_phase q r.phase) rows ≡ found
        → option_map (λ r. r.next f) found ≡ Some p → EndsOrHasNext p
    by None w e = absurd cc
    by (Some r) w e = let same : r.next f ≡ p = cc in subst EndsOrHasNext same (found_row RowGoes (λ r. same_phase q r.phase) rows r all_rows w f)

-- a phase that is due ends the run or another one comes after it
due_goes : (facts : Facts) (t : ℕ) (r : Turn) (last : Option Phase) (p : Phase) → phase_due facts t r last ≡ Some p
    → EndsOrHasNext p
due_goes facts t r None p e = let same : phases.Note 1 ≡ p = cc in subst EndsOrHasNext same (inr note_1)
due_goes facts t r (Some phases.Test) p e =
    let same : cond (is_some r.result) (phases.Note 128) (phases.Note 2) ≡ p = cc in
    subst EndsOrHasNext same (either_phase (is_some r.result) (phases.Note 128) (phases.Note 2) (inr note_128) (inr note_2))
due_goes facts t r (Some (phases.Note a)) p e = next_goes (turn_facts facts t r) (phases.Note a) p e
due_goes facts t r (Some phases.Sources) p e = next_goes (turn_facts facts t r) phases.Sources p e
due_goes facts t r (Some phases.Timers) p e = next_goes (turn_facts facts t r) phases.Timers p e
due_goes facts t r (Some phases.Sleep) p e = next_goes (turn_facts facts t r) phases.Sleep p e
due_goes facts t r (Some phases.Ran) p e = next_goes (turn_facts facts t r) phases.Ran p e

-- ---- an entry that is a phase

some_phase : (p q : Phase) → ◌≡◌ {A = Option Phase} (Some p) (Some q) → p ≡ q
some_phase p q e = cc

no_phase : (p : Phase) → ◌≡◌ {A = Option Phase} None (Some p) → ⊥
no_phase p e = cc

phase_of_action : (p : Phase) → phase_in (phase_action p) ≡ Some p
phase_of_action (phases.Note a) = refl
phase_of_action phases.Sources = refl
phase_of_action phases.Timers = refl
phase_of_action phases.Sleep = refl
phase_of_action phases.Test = refl
phase_of_action phases.Ran = refl

no_phase_said : (x : Statement) (site : Site) → phase_in (action_of x site) ≡ None
no_phase_said (forms.Release v) site = refl
no_phase_said x site = refl

result_same : (o : Option ℕ) → result_answer o ≡ answer_to_test o
result_same None = refl
result_same (Some n) = refl

-- what an entry that is a phase tells of its thread's run
record PhaseOf (s : Script) (st : State) (t : ℕ) (p : Phase) (x : Answer) : Type 0 where
  run : Turn
  outer : List Turn
  runs : runs_in (frames_at t st) ≡ run ∷ outer
  due : (phase_due (facts_of st) t run run.last ≡ Some p) ⊎ ((p ≡ phases.Ran) × (phase_due (facts_of st) t run run.last ≡ None))
  answer : AnswersPhase (turn_facts (facts_of st) t run) run.result p x

module _ (s : Script) (es : List Entry) (st : State) (h : Holds s es st) (t : ℕ) (p : Phase) where
  abbrev facts : Facts
  facts = facts_of st

  runs_at : (f : Frame) (fs : List Frame) (r : Turn) → frames_at t st ≡ f ∷ fs → f.kind ≡ of_run r
      → runs_in (frames_at t st) ≡ r ∷ runs_in fs
  runs_at f fs r same kind = ap runs_in same ∙ ap (λ (k : Kind). run_in k ++ runs_in fs) kind

  phase_answers : (r : Turn) (q : Phase) → (q ≡ phases.Ran → ⊥)
      → AnswersPhase (turn_facts facts t r) r.result q (step_answer (phase_step st t q (of_run r)) st)
  phase_answers r phases.Ran k = absurd (k refl)
  phase_answers r phases.Test k = result_same (test_result facts t r)
  phase_answers r (phases.Note a) k = tt
  phase_answers r phases.Sources k = tt
  phase_answers r phases.Timers k = tt
  phase_answers r phases.Sleep k = tt

  by_line : (f : Frame) (fs : List Frame) (x : BlockLine) → phase_in (action_in s facts t (f ∷ fs) (does x)) ≡ Some p
      → ⊥
  by_line f fs (begins v) is = no_phase p is
  by_line f fs (claims k v) is = no_phase p is
  by_line f fs (packs u k v) is = no_phase p is
  by_line f fs (says x) is = no_phase p (sym (no_phase_said x (site_in s f (says x))) ∙ is)

  by_frame : (f : Frame) (fs : List Frame) (d : Demand) → frames_at t st ≡ f ∷ fs
      → Asks (IsInRole st.parts) s facts t f d → phase_in (action_in s facts t (f ∷ fs) d) ≡ Some p
      → PhaseOf s st t p (step_answer (step_of s t st (f ∷ fs) d) st)
  by_frame f fs _ same (asks_call k c e inside) is = absurd (no_phase p is)
  by_frame f fs _ same (asks_line x e) is = absurd (by_line f fs x is)
  by_frame f fs _ same (asks_end e) is = absurd (no_phase p is)
  by_frame f fs _ same (asks_return k e) is = absurd (no_phase p is)
  by_frame f fs _ same (asks_phase r q e due k) is =
      let this : q ≡ p = some_phase q p (sym (phase_of_action q) ∙ is) in
      subst (λ (z : Phase). PhaseOf s st t z (step_answer (phase_step st t q f.kind) st)) this (record {
        run = r;
        outer = runs_in fs;
        runs = runs_at f fs r same e;
        due = inl due;
        answer = subst (λ (z : Kind). AnswersPhase (turn_facts facts t r) r.result q (step_answer (phase_step st t q z) st)) (sym e) (phase_answers r q k);
      })
  by_frame f fs _ same (asks_close r e ends) is =
      let this : phases.Ran ≡ p = some_phase phases.Ran p is in
      subst (λ (z : Phase). PhaseOf s st t z (step_answer (close_step st f.kind) st)) this (record {
        run = r;
        outer = runs_in fs;
        runs = runs_at f fs r same e;
        due = elim ends [ inl none ↦ inr (refl, none) | inr some ↦ inl some ];
        answer = subst (λ (z : Kind). step_answer (close_step st z) st ≡ answer_to_test r.result) (sym e) (result_same r.result);
      })

  by_work : (fs : List Frame) (work : List Work) (d : Demand) → WorkView facts work d
      → phase_in (action_in s facts t fs d) ≡ Some p → ⊥
  by_work fs work _ (first_owes o q) is = no_phase p is
  by_work fs work _ (first_spends j q) is = no_phase p is
  by_work fs work _ (first_drops b k o e q) is = no_phase p is

  by_stand : (d : Demand) → StandAsks (IsInRole st.parts) s facts t (stand_at t st.stands) d
      → phase_in (action_in s facts t (frames_at t st) d) ≡ Some p
      → PhaseOf s st t p (step_answer (step_of s t st (frames_at t st) d) st)
  by_stand d (asks_work _ view) is = absurd (by_work (frames_at t st) (stand_at t st.stands).work d view is)
  by_stand d (asks_frame _ f fs same view) is =
      subst (λ (gs : List Frame). PhaseOf s st t p (step_answer (step_of s t st gs d) st)) (sym same) (by_frame f fs d same view (subst (λ (gs : List Frame). phase_in (action_in s facts t gs d) ≡ Some p) same is))

  phase_of : (a : Action) (x : Answer) → ActionView a → IsLegalAs s st (event t a x) a → phase_in a ≡ Some p
      → PhaseOf s st t p x
  phase_of _ x (is_tick n) legal is = absurd (no_phase p is)
  phase_of _ x is_stall legal is = absurd (no_phase p is)
  phase_of a x (is_step _ step) legal is =
      let mine = step.legal s st (event t a x) legal in
      let acts = next_is s st t a mine.next in
      let answer : x ≡ step_answer (step_of s t st (frames_at t st) acts.demand) st = mine.answer ∙ ap (answer_if s t st) acts.demands in
      subst (PhaseOf s st t p) (sym answer) (by_stand acts.demand (asks_in_role s es st h.agrees h.roles t acts.demand acts.demands) (ap phase_in acts.action ∙ is))

-- ---- open runs stand at phases after which another one comes

abbrev pub IsRowed : Turn → Type 0
IsRowed r = (q : Phase) → r.last ≡ Some q → HasNext q

abbrev pub AllRowed : List Turn → Type 0
AllRowed [] = Unit {0}
AllRowed (r ∷ rs) = IsRowed r × AllRowed rs

innermost_rowed : (g : Turn → Turn) (rs : List Turn) → ((r : Turn) → IsRowed r → IsRowed (g r)) → AllRowed rs
    → AllRowed (innermost g rs)
innermost_rowed g [] h k = tt
innermost_rowed g (r ∷ rs) h k = (h r k.0, k.1)

either_rowed : (b : Bool) (rs ss : List Turn) → AllRowed rs → AllRowed ss → AllRowed (cond b rs ss)
either_rowed true rs ss h k = h
either_rowed false rs ss h k = k

rowed_more : (rs ss : List Turn) → AllRowed rs → AllRowed ss → AllRowed (rs ++ ss)
rowed_more [] ss h k = k
rowed_more (r ∷ rs) ss h k = (h.0, rowed_more rs ss h.1 k)

drop_rowed : (rs : List Turn) → AllRowed rs → AllRowed (drop 1 rs)
drop_rowed [] h = tt
drop_rowed (r ∷ rs) h = h.1

begun_rowed : (time : ℕ) (w : Option Statement) (x : Answer) → AllRowed (begun time w x)
begun_rowed time (Some (forms.Run m limit once)) x = by (is_entered x)
  where
    by : (b : Bool) → AllRowed (cond b (begun time (Some (forms.Run m limit once)) answers.Entered) [])
    by true = ((λ q e. absurd cc), tt)
    by false = tt
begun_rowed time None x = tt
begun_rowed time (Some w) x = tt

in_phase_rowed : (p : Phase) (x : Answer) (r : Turn) → HasNext p → IsRowed (in_phase p x r)
in_phase_rowed phases.Test x r h = λ q e. subst HasNext (some_phase phases.Test q e) h
in_phase_rowed (phases.Note a) x r h = λ q e. subst HasNext (some_phase (phases.Note a) q e) h
in_phase_rowed phases.Sources x r h = λ q e. subst HasNext (some_phase phases.Sources q e) h
in_phase_rowed phases.Timers x r h = λ q e. subst HasNext (some_phase phases.Timers q e) h
in_phase_rowed phases.Sleep x r h = λ q e. subst HasNext (some_phase phases.Sleep q e) h
in_phase_rowed phases.Ran x r h = λ q e. subst HasNext (some_phase phases.Ran q e) h

with_rowed : (es : List Entry) (a : Action) (x : Answer) (rs : List Turn)
    → ((p : Phase) → phase_in a ≡ Some p → EndsOrHasNext p) → AllRowed rs → AllRowed (runs_with es a x rs)
with_rowed es (actions.Note n) x rs h k = innermost_rowed (in_phase (phases.Note n) x) rs (λ r q. in_phase_rowed (phases.Note n) x r (elim (h (phases.Note n) refl) [ inl e ↦ absurd cc | inr has ↦ has ])) k
with_rowed es actions.Sources x rs h k = innermost_rowed (in_phase phases.Sources x) rs (λ r q. in_phase_rowed phases.Sources x r sources) k
with_rowed es actions.Timers x rs h k = innermost_rowed (in_phase phases.Timers x) rs (λ r q. in_phase_rowed phases.Timers x r timers) k
with_rowed es actions.Sleep x rs h k = innermost_rowed (in_phase phases.Sleep x) rs (λ r q. in_phase_rowed phases.Sleep x r sleep) k
with_rowed es actions.Test x rs h k = innermost_rowed (in_phase phases.Test x) rs (λ r q. in_phase_rowed phases.Test x r test) k
with_rowed es (actions.Ran m) x rs h k = drop_rowed rs k
with_rowed es (actions.Call c None info) x rs h k = k
with_rowed es (actions.Call c (Some i) info) x rs h k = either_rowed (is_source_after es i) (innermost with_source rs) rs (innermost_rowed with_source rs (λ r q. q) k) k
with_rowed es a x rs h k = k

entry_rowed : (s : Script) (u : ℕ) (es : List Entry) (e : Entry) (rs : List Turn)
    → ((p : Phase) → phase_in e.action ≡ Some p → EndsOrHasNext p) → AllRowed rs → AllRowed (runs_after s u es e rs)
entry_rowed s u es e rs h k =
    let own = either_rowed (eqb e.thread u) (runs_own s es e rs) rs (rowed_more (begun (time_after es) (statement_of s e.action) e.answer) (runs_with es e.action e.answer rs) (begun_rowed (time_after es) (statement_of s e.action) e.answer) (with_rowed es e.action e.answer rs h k)) k in
    let before = cond (eqb e.thread u) (runs_own s es e rs) rs in
    either_rowed (stops s u e) (innermost with_stop before) before (innermost_rowed with_stop before (λ r q. q) own) own

phase_goes : (s : Script) (es : List Entry) (st : State) (h : Holds s es st) (e : Entry) → IsLegalEntry s st e
    → (p : Phase) → phase_in e.action ≡ Some p → EndsOrHasNext p
phase_goes s es st h e legal p is =
    let of = phase_of s es st h e.thread p e.action e.answer (action_view e.action) legal is in
    elim of.due [
      | inl due ↦ due_goes (facts_of st) e.thread of.run of.run.last p due
      | inr ends ↦ inl ends.0
    ]

rowed_from : (s : Script) (es : List Entry) (st : State) (more : List Entry) → Holds s es st
    → ((u : ℕ) → AllRowed (open_runs s es u)) → IsLegalPart s st more → (u : ℕ) → AllRowed (open_runs s (es ++ more) u)
rowed_from s es st [] h k legal u = rw (append-nil es) (k u)
rowed_from s es st (e ∷ more) h k legal u =
    let next : (w : ℕ) → AllRowed (open_runs s (es ++ e ∷ []) w) = λ w. subst AllRowed (sym (runs_more s w [] [] es e)) (entry_rowed s w es e (open_runs s es w) (phase_goes s es st h e legal.0) (k w)) in
    rw (← append_assoc es (e ∷ []) more) (rowed_from s (es ++ e ∷ []) (after_action s e.thread st e.action) more (holds_more s es st e h legal.0) next legal.1 u)

-- ---- the law

facts_told : (s : Script) (es : List Entry) (t : ℕ) (r : Turn) → Holds s es (After s es)
    → turn_facts (facts_of (After s es)) t r ≡ turn_facts_after s es t r
facts_told s es t r h =
    ap (λ (n : ℕ). record { handled = r.handled; once = r.once; past = has_come r.deadline n; stopped = r.stopped; empty = is_empty_mode (After s es) t r.mode }) h.agrees.time

next_told : (facts : Facts) (t : ℕ) (r : Turn) (last : Option Phase) (p : Phase)
    → ((q : Phase) → last ≡ Some q → HasNext q)
    → (phase_due facts t r last ≡ Some p) ⊎ ((p ≡ phases.Ran) × (phase_due facts t r last ≡ None)) → IsNextPhase (turn_facts facts t r) r.result last p
next_told facts t r None p rowed due = elim due [ inl e ↦ sym (some_phase (phases.Note 1) p e) | inr e ↦ absurd (let none = e.1 in absurd cc) ]
next_told facts t r (Some phases.Test) p rowed due = elim due [ inl e ↦ sym (some_phase (cond (is_some r.result) (phases.Note 128) (phases.Note 2)) p e) | inr e ↦ absurd (let none = e.1 in absurd cc) ]
next_told facts t r (Some (phases.Note a)) p rowed due = elim due [ inl e ↦ e | inr e ↦ absurd (rowed (phases.Note a) refl (turn_facts facts t r) e.1) ]
next_told facts t r (Some phases.Sources) p rowed due = elim due [ inl e ↦ e | inr e ↦ absurd (rowed phases.Sources refl (turn_facts facts t r) e.1) ]
next_told facts t r (Some phases.Timers) p rowed due = elim due [ inl e ↦ e | inr e ↦ absurd (rowed phases.Timers refl (turn_facts facts t r) e.1) ]
next_told facts t r (Some phases.Sleep) p rowed due = elim due [ inl e ↦ e | inr e ↦ absurd (rowed phases.Sleep refl (turn_facts facts t r) e.1) ]
next_told facts t r (Some phases.Ran) p rowed due = elim due [ inl e ↦ e | inr e ↦ absurd (rowed phases.Ran refl (turn_facts facts t r) e.1) ]

first_rowed : (rs : List Turn) (r : Turn) (outer : List Turn) → rs ≡ r ∷ outer → AllRowed rs → IsRowed r
first_rowed rs r outer e h = (subst AllRowed e h).0

rowed_along : (s : Script) (es : List Entry) → IsLegalPart s (start s) es → (u : ℕ) → AllRowed (open_runs s es u)
rowed_along s es legal u = rowed_from s [] (start s) es (holds_along s [] tt) (λ w. tt) legal u

pub turns_fit : (s : Script) (es : List Entry) → IsLegal s es → TurnsFit s es
turns_fit s es legal earlier later e p parts is =
    let front = legal_front s (start s) earlier e later (subst (IsLegal s) parts legal) in
    let st = After s earlier in
    let h = holds_along s earlier front.0 in
    let t = e.thread in
    let of = phase_of s earlier st h t p e.action e.answer (action_view e.action) front.1 is in
    let open_here : open_runs s earlier t ≡ of.run ∷ of.outer = sym (h.runs t) ∙ of.runs in
    let rowed = rowed_along s earlier front.0 t in
    let same = facts_told s earlier t of.run h in
    record {
      run = of.run;
      outer = of.outer;
      runs = open_here;
      next = subst (λ (f : TurnFacts). IsNextPhase f of.run.result of.run.last p) same (next_told (facts_of st) t of.run of.run.last p (first_rowed (open_runs s earlier t) of.run of.outer open_here rowed) of.due);
      answer = subst (λ (f : TurnFacts). AnswersPhase f of.run.result p e.answer) same of.answer;
    }
