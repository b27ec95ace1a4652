-- Along every legal journal of every script: the runs of a thread that the entries show as open are those of its
-- frames.
use Rattle.std.proofs.Common.{◌≡◌, ℕ, zero, suc, ◌+◌, Bool, true, false, cond, List, [], ◌∷◌, ◌++◌, append-nil, append_assoc, map, Option, Some, None, eqb, refl, sym, ap, ◌∙◌, subst, inl, inr}
use Rattle.std.specs.List.{range_with_len}
use Rattle.std.proofs.lemmas.Bool.Decides.{eqb_tells}
use Rattle.cf_ids.specs.declared.answer.Answer.{Answer}
use Rattle.cf_syntax.specs.declared.script.Script.{Script}
use Rattle.cf_next.specs.declared.action.Action.{Action}
use Rattle.cf_next.specs.Demands.{Demand}
use Rattle.cf_next.specs.Next.{action_in}
use Rattle.cf_next.specs.Stands.{Binding, Callee, Turn, Kind, of_block, of_handler, of_run, Frame, Stand, opening_stand, stop_frames, stop_stand}
use Rattle.cf_model.specs.declared.entry.Entry.{Entry}
use Rattle.cf_model.specs.Known.{facts_of}
use Rattle.cf_model.specs.State.{State, start, blank, stand_at, with_stand}
use Rattle.cf_model.specs.Steps.{acted, answer_if, demanded, done_by, frames_at, step_of, step_answer, stand_after, stopped_at}
use Rattle.cf_model.specs.Journals.{After, after_action, state_from, IsLegalStep, IsLegalAs, IsLegalEntry}
use Rattle.cf_model.proofs.Acting.{next_is}
use Rattle.cf_model.proofs.Entries.{ActionView, IsStep, is_tick, is_stall, is_step, action_view}
use Rattle.cf_model.proofs.Finality.{IsLegalPart}
use Rattle.cf_model.proofs.Tokens.{at_other, at_own, frame}
use Rattle.cf_history.specs.History.{names}
use Rattle.cf_history.specs.OpenRuns.{with_stop, innermost, runs_own, runs_after, runs_from, open_runs}
use Rattle.cf_history.proofs.ItemSteps.{event}
use Rattle.cf_history.proofs.Along.{Agrees, agrees_more, agrees_start}
use Rattle.cf_history.proofs.RunViews.{StandAsks, stand_asks}
use Rattle.cf_history.proofs.RoleLaws.{IsInRole, InRoles, AllInRoles, entry_in, start_in}
use Rattle.cf_history.proofs.RunLaws.{runs_in, demand_own}
use Rattle.cf_history.proofs.Stops.{stop_tells}

-- ---- runs of frames

stop_runs_by : (k : Kind) (b m : ℕ) (bs : List Binding) (cs : List Callee) (fs : List Frame)
    → runs_in (stop_frames fs) ≡ innermost with_stop (runs_in fs)
    → runs_in (stop_frames (frame k b m bs cs ∷ fs)) ≡ innermost with_stop (runs_in (frame k b m bs cs ∷ fs))
stop_runs_by of_block b m bs cs fs rest = rest
stop_runs_by (of_handler k) b m bs cs fs rest = rest
stop_runs_by (of_run r) b m bs cs fs rest = refl

stop_runs : (fs : List Frame) → runs_in (stop_frames fs) ≡ innermost with_stop (runs_in fs)
stop_runs [] = refl
stop_runs (f ∷ fs) = stop_runs_by f.kind f.block f.number f.bindings f.collected fs (stop_runs fs)

put_runs : (t u : ℕ) (new : Stand) (ss : List Stand)
    → runs_in (stand_at u (with_stand t new ss)).frames ≡ cond (eqb t u) (runs_in new.frames) (runs_in (stand_at u ss).frames)
put_runs t u new ss = elim (eqb_tells t u) [
  | inl e ↦ subst (λ (v : ℕ). runs_in (stand_at v (with_stand t new ss)).frames ≡ runs_in new.frames) e.1 (ap (λ (x : Stand). runs_in x.frames) (at_own blank t new ss)) ∙ ap (λ (b : Bool). cond b (runs_in new.frames) (runs_in (stand_at u ss).frames)) (sym e.0)
  | inr e ↦ ap (λ (x : Stand). runs_in x.frames) (at_other blank u t new ss (λ q. e.1 (sym q))) ∙ ap (λ (b : Bool). cond b (runs_in new.frames) (runs_in (stand_at u ss).frames)) (sym e.0)
]

stopped_runs : (stops : Option ℕ) (u : ℕ) (ss : List Stand)
    → runs_in (stand_at u (stopped_at stops ss)).frames ≡ cond (names u stops) (innermost with_stop (runs_in (stand_at u ss).frames)) (runs_in (stand_at u ss).frames)
stopped_runs None u ss = refl
stopped_runs (Some v) u ss = put_runs v u (stop_stand (stand_at v ss)) ss ∙ elim (eqb_tells v u) [
  | inl e ↦ ap (λ (b : Bool). cond b (runs_in (stop_frames (stand_at v ss).frames)) (runs_in (stand_at u ss).frames)) e.0 ∙ stop_runs (stand_at v ss).frames ∙ ap (λ (w : ℕ). innermost with_stop (runs_in (stand_at w ss).frames)) e.1 ∙ ap (λ (b : Bool). cond b (innermost with_stop (runs_in (stand_at u ss).frames)) (runs_in (stand_at u ss).frames)) (sym e.0)
  | inr e ↦ ap (λ (b : Bool). cond b (runs_in (stop_frames (stand_at v ss).frames)) (runs_in (stand_at u ss).frames)) e.0 ∙ ap (λ (b : Bool). cond b (innermost with_stop (runs_in (stand_at u ss).frames)) (runs_in (stand_at u ss).frames)) (sym e.0)
]

-- ---- one entry

same_either : (b : Bool) (rs : List Turn) → rs ≡ cond b rs rs
same_either true rs = refl
same_either false rs = refl

module _ (s : Script) (es : List Entry) (st : State) (agrees : Agrees s es st) (roles : AllInRoles st) where
  abbrev Now : ℕ → List Turn
  Now u = runs_in (frames_at u st)

  -- what a thread asks for, with what it has collected in its roles
  pub asks_in_role : (t : ℕ) (d : Demand) → demanded s st t ≡ Some d
      → StandAsks (IsInRole st.parts) s (facts_of st) t (stand_at t st.stands) d
  asks_in_role t d e = stand_asks (IsInRole st.parts) s (facts_of st) t (stand_at t st.stands) d (λ f fs same. (subst (InRoles st.parts) same (roles t)).0) e

  step_runs : (t : ℕ) (a : Action) (x : Answer) (u : ℕ) → IsStep a → IsLegalStep s st (event t a x)
      → runs_in (frames_at u (after_action s t st a)) ≡ runs_after s u es (event t a x) (Now u)
  step_runs t a x u step legal =
      let acts = next_is s st t a legal.next in
      let d = acts.demand in
      let fs = frames_at t st in
      let does_it = step_of s t st fs d in
      let b = action_in s (facts_of st) t fs d in
      let y = step_answer does_it st in
      let answer : x ≡ y = legal.answer ∙ ap (answer_if s t st) acts.demands in
      let same : event t b y ≡ event t a x = ap (λ (c : Action). event t c y) acts.action ∙ ap (λ (z : Answer). event t a z) (sym answer) in
      let asks = asks_in_role t d acts.demands in
      let new = stand_after t d does_it st in
      let own : runs_in new.frames ≡ runs_own s es (event t b y) (Now t) = demand_own s es t st agrees (stand_at t st.stands) d does_it.list asks in
      let here : cond (eqb t u) (runs_in new.frames) (Now u) ≡ cond (eqb t u) (runs_own s es (event t b y) (Now u)) (Now u) = elim (eqb_tells t u) [
        | inl e ↦ ap (λ (c : Bool). cond c (runs_in new.frames) (Now u)) e.0 ∙ own ∙ ap (λ (w : ℕ). runs_own s es (event t b y) (Now w)) e.1 ∙ ap (λ (c : Bool). cond c (runs_own s es (event t b y) (Now u)) (Now u)) (sym e.0)
        | inr e ↦ ap (λ (c : Bool). cond c (runs_in new.frames) (Now u)) e.0 ∙ ap (λ (c : Bool). cond c (runs_own s es (event t b y) (Now u)) (Now u)) (sym e.0)
      ] in
      let all : runs_in (frames_at u (done_by s t st d)) ≡ runs_after s u es (event t b y) (Now u) =
      stopped_runs does_it.stops u (with_stand t new st.stands)
      ∙ ap (λ (rs : List Turn). cond (names u does_it.stops) (innermost with_stop rs) rs) (put_runs t u new st.stands ∙ here)
      ∙ ap (λ (c : Bool). cond c (innermost with_stop (cond (eqb t u) (runs_own s es (event t b y) (Now u)) (Now u))) (cond (eqb t u) (runs_own s es (event t b y) (Now u)) (Now u))) (sym (stop_tells s u t st (IsInRole st.parts) (stand_at t st.stands) d asks)) in
      subst (λ (q : State). runs_in (frames_at u q) ≡ runs_after s u es (event t a x) (Now u)) (sym (step.after s t st ∙ ap (acted s t st) acts.demands))
      (subst (λ (e : Entry). runs_in (frames_at u (done_by s t st d)) ≡ runs_after s u es e (Now u)) same all)

  runs_by : (t : ℕ) (a : Action) (x : Answer) (u : ℕ) → ActionView a → IsLegalAs s st (event t a x) a
      → runs_in (frames_at u (after_action s t st a)) ≡ runs_after s u es (event t a x) (Now u)
  runs_by t _ x u (is_tick n) legal = same_either (eqb t u) (Now u)
  runs_by t _ x u is_stall legal = same_either (eqb t u) (Now u)
  runs_by t a x u (is_step _ step) legal = step_runs t a x u step (step.legal s st (event t a x) legal)

  pub entry_runs : (e : Entry) (u : ℕ) → IsLegalEntry s st e
      → runs_in (frames_at u (after_action s e.thread st e.action)) ≡ runs_after s u es e (Now u)
  entry_runs e u legal = runs_by e.thread e.action e.answer u (action_view e.action) legal

-- ---- along a journal

pub runs_more : (s : Script) (u : ℕ) (earlier : List Entry) (rs : List Turn) (es : List Entry) (e : Entry)
    → runs_from s u earlier rs (es ++ e ∷ []) ≡ runs_after s u (earlier ++ es) e (runs_from s u earlier rs es)
runs_more s u earlier rs [] e = ap (λ (xs : List Entry). runs_after s u xs e rs) (sym (append-nil earlier))
runs_more s u earlier rs (x ∷ es) e =
    let next = runs_after s u earlier x rs in
    runs_more s u (earlier ++ x ∷ []) next es e
    ∙ ap (λ (xs : List Entry). runs_after s u xs e (runs_from s u (earlier ++ x ∷ []) next es)) (append_assoc earlier (x ∷ []) es)

-- all that holds along a legal journal
pub record Holds (s : Script) (es : List Entry) (st : State) : Type 0 where
  pub agrees : Agrees s es st
  pub roles : AllInRoles st
  pub runs : (u : ℕ) → runs_in (frames_at u st) ≡ open_runs s es u

pub holds_more : (s : Script) (es : List Entry) (st : State) (e : Entry) → Holds s es st → IsLegalEntry s st e
    → Holds s (es ++ e ∷ []) (after_action s e.thread st e.action)
holds_more s es st e h legal = record {
  agrees = agrees_more s es st e h.agrees legal;
  roles = entry_in s st e h.roles legal;
  runs = λ u. entry_runs s es st h.agrees h.roles e u legal ∙ ap (runs_after s u es e) (h.runs u) ∙ sym (runs_more s u [] [] es e);
}

holds_from : (s : Script) (es : List Entry) (st : State) (more : List Entry) → Holds s es st → IsLegalPart s st more
    → Holds s (es ++ more) (state_from s st more)
holds_from s es st [] h legal = rw (append-nil es) h
holds_from s es st (e ∷ more) h legal = rw (← append_assoc es (e ∷ []) more) (holds_from s (es ++ e ∷ []) (after_action s e.thread st e.action) more (holds_more s es st e h legal.0) legal.1)

pub openings_run : (a n u : ℕ) → runs_in (stand_at u (map opening_stand (range_with_len a n))).frames ≡ []
openings_run a zero zero = refl
openings_run a zero (suc u) = refl
openings_run a (suc n) zero = refl
openings_run a (suc n) (suc u) = openings_run (a + 1) n u

pub holds_along : (s : Script) (es : List Entry) → IsLegalPart s (start s) es → Holds s es (After s es)
holds_along s es legal = holds_from s [] (start s) es (record { agrees = agrees_start s; roles = start_in s; runs = λ u. openings_run 0 s.thread_count u }) legal
