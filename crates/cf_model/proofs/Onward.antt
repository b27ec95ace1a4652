-- In an owned script registrations are of objects that were made, and parts go on with each entry.
use Rattle.std.proofs.Common.{◌-◌, ◌<◌, ◌∷◌, ◌≡◌, ◌≤◌, Bool, List, None, Option, Some, ap, arith, cond, eqb, false, inl, inr, length, ltb, refl, subst, sym, true, ℕ}
use Rattle.std.proofs.lemmas.Bool.Decides.{nat_tests}
use Rattle.std.specs.Prelude.{slice_get}
use Rattle.rl_base.specs.declared.registrations.Registration.{Registration}
use Rattle.rl_turn.specs.declared.phases.Phase.{Phase}
use Rattle.cf_syntax.specs.BlockLines.{BlockLine, begins, claims, line_uses, packs, says}
use Rattle.cf_syntax.specs.Mentions.{first_of, ownership_of, used_at}
use Rattle.cf_syntax.specs.Owned.{FitsByBlock}
use Rattle.cf_syntax.specs.declared.mention.Ownership.{Ownership}
use Rattle.cf_syntax.specs.declared.mention.Ownership.TheVariants.{Binds, Keeps, Releases, Retains}
use Rattle.cf_syntax.specs.declared.script.Script.{Script}
use Rattle.cf_syntax.specs.declared.statement.Statement.{Statement}
use Rattle.cf_contents.proofs.SlotLaws.{times-append}
use Rattle.cf_contents.specs.Contents.{times}
use Rattle.cf_contents.specs.Stores.{live}
use Rattle.cf_graph.specs.Degrees.{owns}
use Rattle.cf_graph.specs.Holders.{Holder, parcel, variable}
use Rattle.cf_next.specs.Demands.{Demand, does, frame_lines}
use Rattle.cf_next.specs.Next.{action_in, object_at, used_objects}
use Rattle.cf_next.specs.Stands.{Frame, Kind, Stand, Work, item_of, of_block, of_handler, of_run}
use Rattle.cf_model.proofs.Phases.{phase_case}
use Rattle.cf_model.proofs.Acting.{demand_fits}
use Rattle.cf_model.proofs.Balance.{IsLive}
use Rattle.cf_model.proofs.FrameOrder.{FramesFit, fit_line}
use Rattle.cf_model.proofs.Keeping.{OwnHeld, stand}
use Rattle.cf_model.proofs.Owning.{Owns}
use Rattle.cf_model.proofs.Receiving.{GoOn, IsOfMade, MadeIf, registration_at}
use Rattle.cf_model.proofs.Registering.{RegistrationsGo, deal_go, same_go}
use Rattle.cf_model.proofs.Saying.{used_live}
use Rattle.cf_model.proofs.Sharing.{flow_size}
use Rattle.cf_model.proofs.Sound.{uses_at_most}
use Rattle.cf_model.proofs.Using.{IsSound, demand_may, own_held}
use Rattle.cf_model.proofs.Views.{FrameView, StandView, WorkView, first_drops, first_owes, first_spends, idle_owed, is_call, is_close, is_end, is_line, is_phase, is_return, of_frame, of_work, stand_view}
use Rattle.cf_model.specs.Deals.{Deal}
use Rattle.cf_model.specs.Journals.{owners_of}
use Rattle.cf_model.specs.Known.{facts_of}
use Rattle.cf_model.specs.State.{Parts, State, first_held, is_made, stand_at}
use Rattle.cf_model.specs.Steps.{Step, claim_step, close_step, demanded, done_by, end_step, fire, fire_if, found, frames_at, pack_step, packed_holder, phase_step, release_step, retain_step, spend_if, start_all, statement_step, step_answer, step_finals, step_of}
use Rattle.cf_model.specs.Things.{Thing, thing_at}
use Rattle.cf_model.specs.Tokens.{lines_done, owed_in}

module _ (c : Script) (t : ℕ) (st : State) (own : FitsByBlock c) (h : IsSound c st) where
  abbrev IsOld : Registration → Type 0
  IsOld r = IsOfMade st.parts (Some r)

  abbrev StepGo : Step → Type 0
  StepGo step = RegistrationsGo IsOld st.parts.registrations step.parts.registrations

  quiet : RegistrationsGo IsOld st.parts.registrations st.parts.registrations
  quiet = same_go IsOld st st.parts.registrations refl

  made_live : (o : ℕ) → IsLive st o → is_made st.parts o ≡ true
  made_live o live = is_less o (length st.parts.objects) live.1
    where
      is_less : (m n : ℕ) → m < n → ltb m n ≡ true
      is_less m n h = grind (arith, nat_tests)

  statement_go : (d : ℕ) (x : Statement) (used : List (Option ℕ)) (ownership : Ownership)
      → ((i o : ℕ) → used_at used i ≡ Some o → IsLive st o) → StepGo (statement_step c t d st x used ownership)
  statement_go d x used Keeps live = deal_go IsOld st c t x used (λ k o name filter first second. (made_live o (live 0 o first), by filter second))
    where
      by : (f : Option ℕ) → ((p : ℕ) → f ≡ Some p → used_at used 1 ≡ Some p) → MadeIf st.parts f
      by None second = tt
      by (Some p) second = made_live p (live 1 p (second p refl))
  statement_go d x used (Binds v) live = quiet
  statement_go d x used (Retains v) live = by (first_of used)
    where
      by : (object : Option ℕ) → StepGo (retain_step (variable t d v) st object)
      by None = quiet
      by (Some o) = quiet
  statement_go d x used (Releases v) live = by (first_of used)
    where
      by : (object : Option ℕ) → StepGo (release_step t (variable t d v) st object)
      by None = quiet
      by (Some o) = quiet

  claim_go : (k l : Holder) (object : Option ℕ) → StepGo (claim_step st k object l)
  claim_go k l None = quiet
  claim_go k l (Some o) = quiet

  pack_go : (k l : Holder) (object : Option ℕ) → StepGo (pack_step t st k object l)
  pack_go k l None = quiet
  pack_go k l (Some o) = quiet

  phase_go : (p : Phase) (k : Kind) → StepGo (phase_step st t p k)
  phase_go p k = phase_case StepGo st t p k (record { woken = quiet; due = quiet; sleeps = λ d. quiet; tests = λ r. quiet; collects = λ l. quiet })

  close_go : (k : Kind) → StepGo (close_step st k)
  close_go (of_run r) = quiet
  close_go of_block = quiet
  close_go (of_handler k) = quiet

  end_go : StepGo (end_step t st)
  end_go = by (eqb t 0)
    where
      by : (b : Bool)
          → RegistrationsGo IsOld st.parts.registrations (cond b (record st.parts { flags = start_all st.parts.flags }) st.parts).registrations
      by true = quiet
      by false = quiet

  fire_go : (item : Option ℕ) → RegistrationsGo IsOld st.parts.registrations (fire_if st.parts item).registrations
  fire_go None = quiet
  fire_go (Some i) = by (thing_at st.parts i)
    where
      by : (x : Option Thing) → RegistrationsGo IsOld st.parts.registrations (fire st.parts i x).registrations
      by None = quiet
      by (Some x) = quiet

  spend_go : (i : ℕ)
      → RegistrationsGo IsOld st.parts.registrations (spend_if c st i (thing_at st.parts i)).parts.registrations
  spend_go i = by (thing_at st.parts i)
    where
      inner : (b : Bool) (x y : Deal) → RegistrationsGo IsOld st.parts.registrations x.parts.registrations
          → RegistrationsGo IsOld st.parts.registrations y.parts.registrations
          → RegistrationsGo IsOld st.parts.registrations (cond b x y).parts.registrations
      inner true x y p q = p
      inner false x y p q = q

      by : (x : Option Thing) → RegistrationsGo IsOld st.parts.registrations (spend_if c st i x).parts.registrations
      by None = quiet
      by (Some x) = inner x.valid _ _ (inner x.valid _ _ quiet quiet) quiet

  line_go : (f : Frame) (fs : List Frame) (work : List Work) (done : Bool) → OwnHeld c t st.edges (stand f fs work done)
      → Owns (lines_done c f) f.bindings → ((o : ℕ) → owed_in o work ≡ 0) → (x : BlockLine)
      → slice_get (frame_lines c f.kind f.block) f.number ≡ Some x → StepGo (step_of c t st (f ∷ fs) (does x))
  line_go f fs work done held owns no_work (says x) at =
      let vs = line_uses (says x) in
      statement_go (length fs) x (used_objects f.bindings (says x)) (ownership_of x) (used_live c t st f fs work done held owns no_work h.steady.balance vs (3 - length vs) (fit_line c f (says x) own at).uses)
  line_go f fs work done held owns no_work (begins v) at = quiet
  line_go f fs work done held owns no_work (claims k v) at = claim_go (parcel t k) (variable t (length fs) v) (first_held (parcel t k) st.edges)
  line_go f fs work done held owns no_work (packs u k v) at = pack_go (packed_holder t (length fs) v) (parcel u k) (object_at f.bindings v)

  frame_go : (f : Frame) (fs : List Frame) (work : List Work) (done : Bool)
      → OwnHeld c t st.edges (stand f fs work done) → Owns (lines_done c f) f.bindings → ((o : ℕ) → owed_in o work ≡ 0)
      → (d : Demand) → FrameView c (facts_of st) t f d → StepGo (step_of c t st (f ∷ fs) d)
  frame_go f fs work done held owns no_work _ (is_call k called found) = fire_go (item_of k)
  frame_go f fs work done held owns no_work _ (is_line x at) = line_go f fs work done held owns no_work x at
  frame_go f fs work done held owns no_work _ (is_end e) = end_go
  frame_go f fs work done held owns no_work _ (is_return k e end) = quiet
  frame_go f fs work done held owns no_work _ (is_phase r p e) = phase_go p f.kind
  frame_go f fs work done held owns no_work _ (is_close r e) = close_go f.kind

  work_go : (fs : List Frame) (work : List Work) (d : Demand) → WorkView (facts_of st) work d
      → StepGo (step_of c t st fs d)
  work_go fs work _ (first_owes o first) = quiet
  work_go fs work _ (first_spends i first) = spend_go i
  work_go fs work _ (first_drops b k o left first) = quiet

  stand_go : (s : Stand) (d : Demand) → OwnHeld c t st.edges s → FramesFit c s.frames → StandView c (facts_of st) t s d
      → StepGo (step_of c t st s.frames d)
  stand_go s d held fits (of_work w view) = work_go s.frames s.work d view
  stand_go s d held fits (of_frame f fs no_work e view) =
      let held_top = subst (λ (gs : List Frame). OwnHeld c t st.edges (record { frames = gs; work = s.work; is_done = s.is_done })) e held in
      let fits_top = subst (FramesFit c) e fits in
      subst (λ (gs : List Frame). StepGo (step_of c t st gs d)) (sym e) (frame_go f fs s.work s.is_done held_top fits_top.0 (λ o. idle_owed (facts_of st) s.work o no_work) d view)

  -- what a thread demands
  pub demand_goes : (d : Demand) → demanded c st t ≡ Some d → StepGo (step_of c t st (frames_at t st) d)
  demand_goes d e = stand_go (stand_at t st.stands) d (own_held c st t h.held) (h.frames t) (stand_view c (facts_of st) t (stand_at t st.stands) d e)

  pub demand_onward : (d : Demand) → demanded c st t ≡ Some d → GoOn st.parts (done_by c t st d).parts
  demand_onward d e =
      let s = stand_at t st.stands in
      let step = step_of c t st s.frames d in
      let a = action_in c (facts_of st) t s.frames d in
      let fits = demand_fits c t st d h.steady e (uses_at_most st t (owners_of a) a (step_answer step st) (demand_may c t st h own d e)) in
      record {
        made = λ o m. more_made (length st.parts.objects) (length step.parts.objects) o (flow_size st step.parts step.flow fits.flow) m;
        finalised = λ o. omega (arith, times-append o (step_finals step st) step.parts.finalised, ap (times o) fits.finalised);
        registrations = (demand_goes d e).goes;
      }
    where
      more_made : (m n o : ℕ) → m ≤ n → ltb o m ≡ true → ltb o n ≡ true
      more_made m n o h e = grind (arith, nat_tests)

-- ---- all registrations are of objects that were made

abbrev pub AllOfMade : Parts → Type 0
AllOfMade p = (n : ℕ) → IsOfMade p (registration_at p n)

made_onward : (p q : Parts) (r : Option Registration) → ((o : ℕ) → is_made p o ≡ true → is_made q o ≡ true)
    → IsOfMade p r → IsOfMade q r
made_onward p q None more made = tt
made_onward p q (Some r) more made = (more r.observer made.0, by r.filter made.1)
  where
    by : (f : Option ℕ) → MadeIf p f → MadeIf q f
    by None m = tt
    by (Some o) m = more o m

pub demand_of_made : (c : Script) (t : ℕ) (st : State) (d : Demand) → FitsByBlock c → IsSound c st
    → demanded c st t ≡ Some d → AllOfMade st.parts → AllOfMade (done_by c t st d).parts
demand_of_made c t st d own h e all n = by (registration_at (done_by c t st d).parts n) refl
  where
    by : (r : Option Registration) → registration_at (done_by c t st d).parts n ≡ r
        → IsOfMade (done_by c t st d).parts r
    by None q = tt
    by (Some r) q =
        let on = demand_onward c t st own h d e in
        made_onward st.parts (done_by c t st d).parts (Some r) on.made (elim ((demand_goes c t st own h d e).from n r q) [
          | inl old ↦ subst (IsOfMade st.parts) old (all n)
          | inr new ↦ new
        ])
