-- Every legal journal of every script fits: each call of a source is of a run whose mode holds it, and it is valid and
-- signalled.
use Rattle.std.proofs.Common.{◌≡◌, ℕ, Bool, true, false, ◌&&◌, not, List, [], ◌∷◌, ◌++◌, Option, Some, None, refl, sym, ap, ◌∙◌, subst}
use Rattle.std.proofs.lemmas.Bool.{and_parts}
use Rattle.cf_ids.specs.declared.answer.Answer.{Answer}
use Rattle.cf_syntax.specs.declared.script.Script.{Script}
use Rattle.cf_syntax.specs.declared.statement.Statement.{Statement}
use Rattle.cf_syntax.specs.declared.statement.Statement.TheVariants as forms
use Rattle.cf_syntax.specs.BlockLines.{BlockLine, begins, claims, says, packs}
use Rattle.cf_next.specs.declared.action.Action.{Action}
use Rattle.cf_next.specs.Actions.{Site, action_of}
use Rattle.cf_next.specs.Facts.{Callout, Facts}
use Rattle.cf_next.specs.Stands.{Role, as_observer, as_source, as_timer, as_receiver, item_in, Turn, Kind, of_block, of_handler, of_run, Frame, Work}
use Rattle.cf_next.specs.Demands.{Demand, does, role_fits, item_fits, callout_of}
use Rattle.cf_next.specs.Next.{site_in, phase_action, action_in}
use Rattle.rl_turn.specs.declared.phases.Phase.{Phase}
use Rattle.rl_turn.specs.declared.phases.Phase.TheVariants as phases
use Rattle.cf_model.specs.declared.entry.Entry.{Entry}
use Rattle.cf_model.specs.Known.{facts_of}
use Rattle.cf_model.specs.State.{State, start, stand_at}
use Rattle.cf_model.specs.Things.{thing_at}
use Rattle.cf_model.specs.Steps.{frames_at}
use Rattle.cf_model.specs.Journals.{After, after_action, state_from, IsLegalAs, IsLegalEntry, IsLegalFrom, IsLegal}
use Rattle.cf_model.proofs.Acting.{next_is}
use Rattle.cf_model.proofs.Entries.{ActionView, is_tick, is_stall, is_step, action_view}
use Rattle.cf_model.proofs.Finality.{IsLegalPart}
use Rattle.cf_model.proofs.Views.{WorkView, first_drops, first_owes, first_spends}
use Rattle.cf_history.specs.History.{called_in, is_source_after}
use Rattle.cf_history.specs.Callouts.{CalloutFits, CalloutsFit}
use Rattle.cf_history.proofs.ItemLaws.{is_source_thing}
use Rattle.cf_history.proofs.ItemSteps.{event}
use Rattle.cf_history.proofs.RunViews.{Asks, asks_call, asks_line, asks_end, asks_return, asks_phase, asks_close, StandAsks, asks_work, asks_frame}
use Rattle.cf_history.proofs.RoleLaws.{IsInRole}
use Rattle.cf_history.proofs.RunLaws.{run_in, runs_in, run_fits, timer_dated}
use Rattle.cf_history.proofs.RunsAlong.{Holds, asks_in_role, holds_along}

-- a legal journal in two parts: the first is legal, and so is the entry after it
pub legal_front : (s : Script) (st : State) (es : List Entry) (e : Entry) (fs : List Entry)
    → IsLegalFrom s st (es ++ e ∷ fs) → IsLegalPart s st es × IsLegalEntry s (state_from s st es) e
legal_front s st [] e fs h = (tt, h.0)
legal_front s st (f ∷ es) e fs h = let r = legal_front s (after_action s f.thread st f.action) es e fs h.2 in ((h.0, r.0), r.1)

none_called : (x : Statement) (site : Site) → called_in (action_of x site) ≡ None
none_called (forms.Release v) site = refl
none_called x site = refl

true_false : (b : Bool) → b ≡ true → b ≡ false → ⊥
true_false true e f = cc
true_false false e f = cc

no_item : (i : ℕ) → ◌≡◌ {A = Option ℕ} None (Some i) → ⊥
no_item i e = cc

module _ (s : Script) (es : List Entry) (t i : ℕ) (h : Holds s es (After s es)) (source : is_source_after es i ≡ true) where
  abbrev st : State
  st = After s es

  abbrev facts : Facts
  facts = facts_of st

  is_source : is_source_thing (thing_at st.parts i) ≡ true
  is_source = h.agrees.source i ∙ source

  fits_run : (f : Frame) (fs : List Frame) (r : Turn) → frames_at t st ≡ f ∷ fs → f.kind ≡ of_run r
      → item_fits facts t r as_source i ≡ true → CalloutFits s es t i
  fits_run f fs r same kind fits =
      let outer = and_parts (facts.holds t r.mode i) (facts.is_valid i && role_fits facts r as_source i) fits in
      let inner = and_parts (facts.is_valid i) (role_fits facts r as_source i) outer.1 in
      let lit = and_parts (facts.is_signalled i) (not (r.once && r.handled)) inner.1 in
      record {
        run = r;
        outer = runs_in fs;
        runs = sym (h.runs t) ∙ ap runs_in same ∙ ap (λ (k : Kind). run_in k ++ runs_in fs) kind;
        held = outer.0;
        valid = sym (h.agrees.valid i) ∙ inner.0;
        signalled = sym (h.agrees.signalled i) ∙ lit.0;
      }

  by_role : (f : Frame) (fs : List Frame) (k : Kind) (role : Role) (n : ℕ) (c : Callout) → frames_at t st ≡ f ∷ fs
      → f.kind ≡ k → callout_of facts t k role n ≡ Some c
      → IsInRole st.parts (record { role = role; number = n }) → item_in role n ≡ Some i → CalloutFits s es t i
  by_role f fs k as_receiver n c same kind e inside is = absurd (no_item i is)
  by_role f fs (of_run r) as_source n c same kind e inside is =
      fits_run f fs r same kind (subst (λ (m : ℕ). item_fits facts t r as_source m ≡ true) (number_is n is) (run_fits s es t st h.agrees r as_source n c (λ z. absurd cc) e))
    where
      number_is : (n : ℕ) → ◌≡◌ {A = Option ℕ} (Some n) (Some i) → n ≡ i
      number_is n q = cc
  by_role f fs of_block as_source n c same kind e inside is = absurd cc
  by_role f fs (of_handler q) as_source n c same kind e inside is = absurd cc
  by_role f fs k as_timer n c same kind e inside is =
      absurd (true_false (is_source_thing (thing_at st.parts i)) is_source (subst (λ (m : ℕ). is_source_thing (thing_at st.parts m) ≡ false) (number_is n is) (timer_dated s es t st h.agrees k n c e)))
    where
      number_is : (n : ℕ) → ◌≡◌ {A = Option ℕ} (Some n) (Some i) → n ≡ i
      number_is n q = cc
  by_role f fs k as_observer n c same kind e inside is =
      absurd (true_false (is_source_thing (thing_at st.parts i)) is_source (subst (λ (m : ℕ). is_source_thing (thing_at st.parts m) ≡ false) (number_is n is) (inside refl).1))
    where
      number_is : (n : ℕ) → ◌≡◌ {A = Option ℕ} (Some n) (Some i) → n ≡ i
      number_is n q = cc

  phase_calls : (p : Phase) → called_in (phase_action p) ≡ None
  phase_calls (phases.Note a) = refl
  phase_calls phases.Sources = refl
  phase_calls phases.Timers = refl
  phase_calls phases.Sleep = refl
  phase_calls phases.Test = refl
  phase_calls phases.Ran = refl

  by_line : (f : Frame) (fs : List Frame) (x : BlockLine) → called_in (action_in s facts t (f ∷ fs) (does x)) ≡ Some i
      → CalloutFits s es t i
  by_line f fs (begins v) is = absurd (no_item i is)
  by_line f fs (claims k v) is = absurd (no_item i is)
  by_line f fs (packs u k v) is = absurd (no_item i is)
  by_line f fs (says x) is = absurd (no_item i (sym (none_called x (site_in s f (says x))) ∙ is))

  by_frame : (f : Frame) (fs : List Frame) (d : Demand) → frames_at t st ≡ f ∷ fs
      → Asks (IsInRole st.parts) s facts t f d → called_in (action_in s facts t (f ∷ fs) d) ≡ Some i
      → CalloutFits s es t i
  by_frame f fs _ same (asks_call k c e inside) is = by_role f fs f.kind k.role k.number c same refl e inside is
  by_frame f fs _ same (asks_line x e) is = by_line f fs x is
  by_frame f fs _ same (asks_end e) is = absurd (no_item i is)
  by_frame f fs _ same (asks_return k e) is = absurd (no_item i is)
  by_frame f fs _ same (asks_phase r p e due q) is = absurd (no_item i (sym (phase_calls p) ∙ is))
  by_frame f fs _ same (asks_close r e q) is = absurd (no_item i is)

  by_work : (fs : List Frame) (work : List Work) (d : Demand) → WorkView facts work d
      → called_in (action_in s facts t fs d) ≡ Some i → ⊥
  by_work fs work _ (first_owes o q) is = no_item i is
  by_work fs work _ (first_spends j q) is = no_item i is
  by_work fs work _ (first_drops b k o e q) is = no_item i is

  by_stand : (d : Demand) → StandAsks (IsInRole st.parts) s facts t (stand_at t st.stands) d
      → called_in (action_in s facts t (frames_at t st) d) ≡ Some i → CalloutFits s es t i
  by_stand d (asks_work _ view) is = absurd (by_work (frames_at t st) (stand_at t st.stands).work d view is)
  by_stand d (asks_frame _ f fs same view) is = by_frame f fs d same view (subst (λ (gs : List Frame). called_in (action_in s facts t gs d) ≡ Some i) same is)

  pub by_action : (a : Action) (x : Answer) → ActionView a → IsLegalAs s st (event t a x) a → called_in a ≡ Some i
      → CalloutFits s es t i
  by_action _ x (is_tick n) legal is = absurd (no_item i is)
  by_action _ x is_stall legal is = absurd (no_item i is)
  by_action a x (is_step _ step) legal is =
      let acts = next_is s st t a (step.legal s st (event t a x) legal).next in
      by_stand acts.demand (asks_in_role s es st h.agrees h.roles t acts.demand acts.demands) (ap called_in acts.action ∙ is)

pub callouts_fit : (s : Script) (es : List Entry) → IsLegal s es → CalloutsFit s es
callouts_fit s es legal earlier later e h i info parts action source =
    let front = legal_front s (start s) earlier e later (subst (IsLegal s) parts legal) in
    by_action s earlier e.thread i (holds_along s earlier front.0) source e.action e.answer (action_view e.action) front.1 (ap called_in action)
