-- What a thread of an owned script demands uses only what is live and at hand.
use Rattle.std.proofs.Common.{◌&&◌, ◌++◌, ◌-◌, ◌<◌, ◌∙◌, ◌∷◌, ◌≡◌, ◌≤◌, Bool, List, None, Option, Some, [], ap, arith, cond, eqb, false, length, map, refl, replicate, subst, suc, sym, true, zero, ℕ}
use Rattle.std.proofs.lemmas.Bool.{and_parts, eq-eqb, ltb-true}
use Rattle.std.specs.List.{list_any}
use Rattle.std.specs.Prelude.{◌||◌, IsTrue, slice_get}
use Rattle.rl_base.specs.declared.registrations.Registration.{Registration}
use Rattle.rl_turn.specs.declared.phases.Phase.{Phase}
use Rattle.rl_turn.specs.declared.phases.Phase.TheVariants as phases
use Rattle.cf_syntax.specs.BlockLines.{BlockLine, begins, claims, line_uses, packs, says}
use Rattle.cf_syntax.specs.Owned.{FitsByBlock}
use Rattle.cf_syntax.specs.declared.script.Script.{Script}
use Rattle.cf_syntax.specs.declared.statement.Statement.{Statement}
use Rattle.cf_syntax.specs.declared.statement.Statement.TheVariants as forms
use Rattle.cf_contents.specs.Contents.{Content, Object, item_content, slots_in, times}
use Rattle.cf_graph.proofs.Counts.{weigh-le}
use Rattle.cf_graph.proofs.Same.{same-equal}
use Rattle.cf_graph.specs.Edges.{Reference, counted, from_thread, has, held_by, one, same, weigh}
use Rattle.cf_graph.specs.Holders.{callout, in_mode, owed, owner_of, parcel, slot, variable}
use Rattle.cf_graph.specs.Owners.{is_at_hand, is_thread}
use Rattle.cf_graph.specs.declared.edge.Owner.{Owner}
use Rattle.cf_graph.specs.declared.edge.Owner.TheVariants.{Slot}
use Rattle.cf_next.specs.Demands.{Demand, callout_of, does, enters, frame_lines, item_callout, item_fits, work_demand}
use Rattle.cf_next.specs.Facts.{Callout}
use Rattle.cf_next.specs.Next.{action_in, object_at}
use Rattle.cf_next.specs.Stands.{Binding, Frame, Kind, Role, Stand, Work, as_observer, as_receiver, as_source, as_timer, item_in, item_of, look, of_block, of_handler, of_run}
use Rattle.cf_next.specs.declared.action.Action.TheVariants as actions
use Rattle.cf_model.proofs.Balance.{IsBalanced, live_test, live_there}
use Rattle.cf_model.proofs.Dropping.{slot_there}
use Rattle.cf_model.proofs.Fitting.{first_there}
use Rattle.cf_model.proofs.FrameOrder.{FramesFit, HaveOwn, fit_line}
use Rattle.cf_model.proofs.Keeping.{OwnHeld, stand}
use Rattle.cf_model.proofs.Owning.{HasOwn, Owns}
use Rattle.cf_model.proofs.Saying.{variable_there}
use Rattle.cf_model.proofs.Spending.{AllSpend, Spends, spend_first}
use Rattle.cf_model.proofs.Steady.{IsSteady}
use Rattle.cf_model.specs.Tokens.{HeldAsTold, lines_done, owed_in}
use Rattle.cf_model.proofs.Views.{FrameView, StandView, WorkView, first_drops, first_owes, first_spends, idle_owed, is_call, is_close, is_end, is_line, is_phase, is_return, of_frame, of_work, stand_view}
use Rattle.cf_model.specs.Journals.{MayUse, MayUseAll, Use, action_uses, is_same_slot, owners_of, reaches, reaches_all, reaching, takes, uses_if}
use Rattle.cf_model.specs.Known.{facts_of, may_receive, receiver_in}
use Rattle.cf_model.specs.State.{State, first_held, is_live, left_of, stand_at}
use Rattle.cf_model.specs.Steps.{demanded, frames_at}
use Rattle.cf_model.specs.Things.{callout_of_thing, thing_at, thing_in, thing_of}

-- what holds of a state of an owned script beside what holds of every one: each holder holds what it is said to hold,
-- frames are in order, and what is to be spent is owed
pub record IsSound (c : Script) (st : State) : Type 0 where
  pub held : HeldAsTold c st
  pub frames : (t : ℕ) → FramesFit c (frames_at t st)
  pub steady : IsSteady st
  pub spent : AllSpend st

pub own_held : (c : Script) (st : State) (t : ℕ) → HeldAsTold c st → OwnHeld c t st.edges (stand_at t st.stands)
own_held c st t held = record { variables = λ d v o. held (variable t d v) o; callouts = λ d o. held (callout t d) o; owed = λ o. held (owed t) o }

-- ---- a reference by which an object may be used

one_within : (r e : Reference) (g : Reference → ℕ) (b : Bool) → same r e ≡ b → g r ≡ 1 → counted b ≤ g e
one_within r e g true q whole = omega (arith, whole, ap g (same-equal r e q))
one_within r e g false q whole = omega arith

reach_by : (st : State) (t : ℕ) (owners : List Owner) (r : Reference) → IsBalanced st
    → (is_at_hand t (owner_of r.holder) || list_any (is_same_slot (owner_of r.holder)) owners) ≡ true
    → 0 < weigh (one r) st.edges → MayUse st t owners (reaches r.object)
reach_by st t owners r b from here = record {
  live = live_test st r.object (live_there st r b here);
  edge =
      let whole : reaching t owners r.object r ≡ 1 = rw from (ap (λ (c : Bool). counted (c && true)) (eq-eqb r.object r.object refl)) in
      omega (arith, here, weigh-le (one r) (reaching t owners r.object) st.edges (λ e. one_within r e (reaching t owners r.object) (same r e) refl whole));
}

take_by : (st : State) (t : ℕ) (owners : List Owner) (r : Reference) → IsBalanced st
    → is_thread t (owner_of r.holder) ≡ true → 0 < weigh (one r) st.edges → MayUse st t owners (takes r.object)
take_by st t owners r b from here = record {
  live = live_test st r.object (live_there st r b here);
  edge =
      let whole : from_thread t r.object r ≡ 1 = rw from (ap (λ (c : Bool). counted (c && true)) (eq-eqb r.object r.object refl)) in
      omega (arith, here, weigh-le (one r) (from_thread t r.object) st.edges (λ e. one_within r e (from_thread t r.object) (same r e) refl whole));
}

own_thread : (t : ℕ) (other : Bool) → (eqb t t || other) ≡ true
own_thread t other = ap (λ (b : Bool). b || other) (eq-eqb t t refl)

own_slot : (i : ℕ) → (false || (eqb i i || false)) ≡ true
own_slot i = ap (λ (b : Bool). false || (b || false)) (eq-eqb i i refl)

if_may : (st : State) (t : ℕ) (owners : List Owner) (how : ℕ → Use) (object : Option ℕ)
    → ((o : ℕ) → object ≡ Some o → MayUse st t owners (how o)) → MayUseAll st t owners (uses_if how object)
if_may st t owners how None h = tt
if_may st t owners how (Some o) h = (h o refl, tt)

none_may : (st : State) (t : ℕ) (owners : List Owner) (bs : List Binding) (k : ℕ)
    → MayUseAll st t owners (reaches_all (map (object_at bs) (replicate k None)))
none_may st t owners bs zero = tt
none_may st t owners bs (suc k) = none_may st t owners bs k

one_may : (st : State) (t : ℕ) (owners : List Owner) (object : Option ℕ) (os : List (Option ℕ))
    → ((o : ℕ) → object ≡ Some o → MayUse st t owners (reaches o)) → MayUseAll st t owners (reaches_all os)
    → MayUseAll st t owners (reaches_all (object ∷ os))
one_may st t owners None os h rest = rest
one_may st t owners (Some o) os h rest = (h o refl, rest)

-- ---- what is called

-- an item is called from a mode that holds it, with the info that is its slot; and a notice with an observer that is
-- live
pub data CalledFrom (t : ℕ) (st : State) : Option ℕ → Option ℕ → Type 0 where
  from_mode : (m i : ℕ) (info : Option ℕ) → 0 < weigh (one (held_by (in_mode t m) i)) st.edges
      → ((o : ℕ) → info ≡ Some o → 0 < weigh (one (held_by (slot i) o)) st.edges) → CalledFrom t st (Some i) info
  from_notice : (o : ℕ) → IsTrue (is_live st.parts o) → CalledFrom t st None (Some o)

abbrev info_in : Option Callout → Option ℕ
info_in None = None
info_in (Some c) = c.info

info_slot : (st : State) (i o : ℕ) (called : Callout) (ob : Option Object) → slice_get st.parts.objects i ≡ ob
    → callout_of_thing (thing_of ob) ≡ Some called → called.info ≡ Some o → times i st.parts.dropped ≡ 0
    → 0 < times o (left_of st.parts.objects st.parts.dropped i)
info_slot st i o called None e q is whole = absurd cc
info_slot st i o called (Some ob) e q is whole =
    let here : left_of st.parts.objects st.parts.dropped i ≡ slots_in ob.content = rw (e, whole) refl in
    omega (arith, ap (times o) here, by ob.content q)
  where
    by : (content : Content) → callout_of_thing (thing_in content) ≡ Some called → 0 < times o (slots_in content)
    by (item_content k info valid item) q =
        let found : info ≡ Some o = ap info_in q ∙ is in
        rw found (let own : counted (eqb o o) ≡ 1 = ap counted (eq-eqb o o refl) in omega (arith, own))
    by _ q = absurd cc

module _ (c : Script) (t : ℕ) (st : State) (h : IsSound c st) where
  item_call : (k : Kind) (role : Role) (i : ℕ) (called : Callout) → item_callout (facts_of st) t k role i ≡ Some called
      → CalledFrom t st (Some i) called.info
  item_call of_block role i called e = absurd cc
  item_call (of_handler q) role i called e = absurd cc
  item_call (of_run r) role i called e = by (item_fits (facts_of st) t r role i) refl e
    where
      by : (test : Bool) → item_fits (facts_of st) t r role i ≡ test
          → cond test (callout_of_thing (thing_at st.parts i)) None ≡ Some called → CalledFrom t st (Some i) called.info
      by false e q = absurd cc
      by true e q =
          let p = and_parts (has (in_mode t r.mode) i st.edges) _ e in
          let here = ltb-true 0 (weigh (one (held_by (in_mode t r.mode) i)) st.edges) p.0 in
          let live = live_there st (held_by (in_mode t r.mode) i) h.steady.balance here in
          from_mode r.mode i called.info here (λ o is.
          omega (arith, h.steady.slotted i o, info_slot st i o called (slice_get st.parts.objects i) refl q is (h.steady.undropped i live.0)))

  receiver_call : (found : Option Registration) (called : Callout) → receiver_in st.parts found ≡ Some called
      → CalledFrom t st None called.info
  receiver_call None called e = absurd cc
  receiver_call (Some r) called e = by (may_receive st.parts r) refl e
    where
      by : (test : Bool) → may_receive st.parts r ≡ test
          → cond test (Some (record { handler = r.handler; info = Some r.observer })) None ≡ Some called
          → CalledFrom t st None called.info
      by false e q = absurd cc
      by true e q = subst (CalledFrom t st None) (ap info_in q) (from_notice r.observer (and_parts (is_live st.parts r.observer) _ e).0)

  pub called_from : (k : Kind) (role : Role) (n : ℕ) (called : Callout)
      → callout_of (facts_of st) t k role n ≡ Some called → CalledFrom t st (item_in role n) called.info
  called_from k as_observer n called e = item_call k as_observer n called e
  called_from k as_source n called e = item_call k as_source n called e
  called_from k as_timer n called e = item_call k as_timer n called e
  called_from k as_receiver n called e = receiver_call _ called e

  -- ---- what each demand uses

  abbrev Used : List Frame → Demand → Type 0
  Used fs d = let a = action_in c (facts_of st) t fs d in MayUseAll st t (owners_of a) (action_uses a)

  call_uses : (handler : ℕ) (item info : Option ℕ) → CalledFrom t st item info
      → MayUseAll st t (owners_of (actions.Call handler item info)) (action_uses (actions.Call handler item info))
  call_uses handler _ _ (from_mode m i info here slots) = (
    reach_by st t (Slot i ∷ []) (held_by (in_mode t m) i) h.steady.balance (own_thread t _) here,
    if_may st t (Slot i ∷ []) reaches info (λ o is. reach_by st t (Slot i ∷ []) (held_by (slot i) o) h.steady.balance (own_slot i) (slots o is)),
  )
  call_uses handler _ _ (from_notice o live) = (live, tt)

  module _ (own : FitsByBlock c) (f : Frame) (fs : List Frame) (work : List Work) (done : Bool) (held : OwnHeld c t st.edges (stand f fs work done)) (owns : Owns (lines_done c f) f.bindings) (idle : (o : ℕ) → owed_in o work ≡ 0) where
    variable_use : (v o : ℕ) → look v f.bindings ≡ Some o → HasOwn (lines_done c f) v → MayUse st t [] (reaches o)
    variable_use v o is has_own =
        reach_by st t [] (held_by (variable t (length fs) v) o) h.steady.balance (own_thread t false) (variable_there c t st f fs work done held owns idle v o is has_own.more)

    variable_take : (v o : ℕ) → look v f.bindings ≡ Some o → HasOwn (lines_done c f) v → MayUse st t [] (takes o)
    variable_take v o is has_own =
        take_by st t [] (held_by (variable t (length fs) v) o) h.steady.balance (eq-eqb t t refl) (variable_there c t st f fs work done held owns idle v o is has_own.more)

    variables_use : (vs : List ℕ) (k : ℕ) → HaveOwn (lines_done c f) vs
        → MayUseAll st t [] (reaches_all (map (object_at f.bindings) (map Some vs ++ replicate k None)))
    variables_use [] k has_own = none_may st t [] f.bindings k
    variables_use (v ∷ vs) k has_own =
        one_may st t [] (look v f.bindings) (map (object_at f.bindings) (map Some vs ++ replicate k None)) (λ o is. variable_use v o is has_own.0) (variables_use vs k has_own.1)

    statement_uses : (x : Statement) → HaveOwn (lines_done c f) (line_uses (says x)) → Used (f ∷ fs) (does (says x))
    statement_uses (forms.Release v) has_own = if_may st t [] takes (look v f.bindings) (λ o is. variable_take v o is has_own.0)
    statement_uses x has_own = variables_use (line_uses (says x)) (3 - length (line_uses (says x))) has_own

    line_may : (x : BlockLine) → slice_get (frame_lines c f.kind f.block) f.number ≡ Some x → Used (f ∷ fs) (does x)
    line_may (begins v) at = tt
    line_may (claims k v) at =
        if_may st t [] reaches (first_held (parcel t k) st.edges) (λ o is. reach_by st t [] (held_by (parcel t k) o) h.steady.balance (own_thread t false) (first_there (parcel t k) st.edges o is))
    line_may (packs u k None) at = tt
    line_may (packs u k (Some v)) at =
        if_may st t [] takes (look v f.bindings) (λ o is. variable_take v o is (fit_line c f (packs u k (Some v)) own at).ownership)
    line_may (says x) at = statement_uses x (fit_line c f (says x) own at).uses

    phase_may : (p : Phase) → Used (f ∷ fs) (enters p)
    phase_may (phases.Note a) = tt
    phase_may phases.Sources = tt
    phase_may phases.Timers = tt
    phase_may phases.Sleep = tt
    phase_may phases.Test = tt
    phase_may phases.Ran = tt

    frame_may : (d : Demand) → FrameView c (facts_of st) t f d → Used (f ∷ fs) d
    frame_may _ (is_call k called found) = call_uses called.handler (item_of k) called.info (called_from f.kind k.role k.number called found)
    frame_may _ (is_line x at) = line_may x at
    frame_may _ (is_end e) = tt
    frame_may _ (is_return k e end) = tt
    frame_may _ (is_phase r p e) = phase_may p
    frame_may _ (is_close r e) = tt

  work_may : (s : Stand) (d : Demand) → ((o : ℕ) → weigh (one (held_by (owed t) o)) st.edges ≡ owed_in o s.work)
      → Spends s.work → work_demand (facts_of st) s.work ≡ Some d → WorkView (facts_of st) s.work d → Used s.frames d
  work_may s _ owes_all spent e (first_owes o first) =
      (take_by st t [] (held_by (owed t) o) h.steady.balance (eq-eqb t t refl) (let own : counted (eqb o o) ≡ 1 = ap counted (eq-eqb o o refl) in omega (arith, own, owes_all o, first o)), tt)
  work_may s _ owes_all spent e (first_spends i first) =
      (reach_by st t [] (held_by (owed t) i) h.steady.balance (own_thread t false) (omega (arith, owes_all i, spend_first (facts_of st) s.work i e spent)), tt)
  work_may s _ owes_all spent e (first_drops b k o left first) =
      (reach_by st t (Slot b ∷ []) (held_by (slot b) o) h.steady.balance (own_slot b) (slot_there b k o st left h.steady.slotted), tt)

  stand_may : (s : Stand) (d : Demand) → FitsByBlock c → OwnHeld c t st.edges s → FramesFit c s.frames → Spends s.work
      → StandView c (facts_of st) t s d → Used s.frames d
  stand_may s d own held fits spent (of_work w view) = work_may s d held.owed spent w view
  stand_may s d own held fits spent (of_frame f fs idle e view) =
      let held_top = subst (λ (gs : List Frame). OwnHeld c t st.edges (record { frames = gs; work = s.work; is_done = s.is_done })) e held in
      let fits_top = subst (FramesFit c) e fits in
      subst (λ (gs : List Frame). Used gs d) (sym e) (frame_may own f fs s.work s.is_done held_top fits_top.0 (λ o. idle_owed (facts_of st) s.work o idle) d view)

  -- what a thread demands may be used
  pub demand_may : FitsByBlock c → (d : Demand) → demanded c st t ≡ Some d → Used (frames_at t st) d
  demand_may own d e = stand_may (stand_at t st.stands) d own (own_held c st t h.held) (h.frames t) (h.spent t) (stand_view c (facts_of st) t (stand_at t st.stands) d e)
