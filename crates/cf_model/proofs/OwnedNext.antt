-- In an owned script the next action of a thread is legal, a release takes the variable's own reference, and a thread
-- has what it retains next.
use Rattle.std.proofs.Common.{◌&&◌, ◌<◌, ◌∙◌, ◌∷◌, ◌≡◌, ◌≤◌, Bool, List, None, Option, Some, [], ap, arith, cond, eqb, false, inl, inr, length, refl, subst, sym, true, ℕ}
use Rattle.std.proofs.lemmas.Bool.{eq-eqb}
use Rattle.std.proofs.lemmas.Bool.Decides.{eqb_tells}
use Rattle.std.specs.Prelude.{IsTrue}
use Rattle.cf_ids.specs.declared.limits.TheConstants.{OBJECTS}
use Rattle.rl_turn.specs.declared.phases.Phase.{Phase}
use Rattle.rl_turn.specs.declared.phases.Phase.TheVariants as phases
use Rattle.cf_syntax.specs.BlockLines.{BlockLine, begins, claims, packs, says}
use Rattle.cf_syntax.specs.Mentions.{first_of}
use Rattle.cf_syntax.specs.Owned.{FitsByBlock}
use Rattle.cf_syntax.specs.declared.script.Script.{Script}
use Rattle.cf_syntax.specs.declared.statement.Statement.{Statement}
use Rattle.cf_syntax.specs.declared.statement.Statement.TheVariants as forms
use Rattle.cf_contents.specs.Contents.{times}
use Rattle.cf_graph.proofs.Counts.{weigh-le}
use Rattle.cf_graph.proofs.Same.{same-equal}
use Rattle.cf_graph.specs.Edges.{Reference, counted, from_thread, held_by, one, same, weigh}
use Rattle.cf_graph.specs.Flows.{flowed, shrinks}
use Rattle.cf_graph.specs.Holders.{Holder, owner_of, variable}
use Rattle.cf_graph.specs.Owners.{is_thread}
use Rattle.cf_next.specs.Actions.{Site, action_of}
use Rattle.cf_next.specs.Ahead.{ahead}
use Rattle.cf_next.specs.Demands.{Demand, does, enters}
use Rattle.cf_next.specs.Facts.{Facts}
use Rattle.cf_next.specs.Next.{action_in, line_action, phase_action, site_in, top_frame, used_objects}
use Rattle.cf_next.specs.Stands.{Frame, Stand, Work, look}
use Rattle.cf_next.specs.declared.action.Action.{Action}
use Rattle.cf_next.specs.declared.action.Action.TheVariants as actions
use Rattle.cf_model.proofs.Acting.{next_is}
use Rattle.cf_model.proofs.Coming.{First, first_comes, first_demanded, rest_comes}
use Rattle.cf_model.proofs.FrameOrder.{FitLine, FramesFit, fit_line}
use Rattle.cf_model.proofs.Keeping.{OwnHeld, stand}
use Rattle.cf_model.proofs.Owning.{Owns}
use Rattle.cf_model.proofs.Saying.{release_own, variable_there}
use Rattle.cf_model.proofs.Sound.{demand_sound, uses_at_most}
use Rattle.cf_model.specs.Tokens.{lines_done, owed_in}
use Rattle.cf_model.proofs.Using.{IsSound, demand_may, own_held}
use Rattle.cf_model.proofs.Views.{FrameView, StandView, WorkView, first_drops, first_owes, first_spends, idle_owed, is_call, is_close, is_end, is_line, is_phase, is_return, of_frame, of_work, stand_view}
use Rattle.cf_model.specs.Coming.{next_retains}
use Rattle.cf_model.specs.Flowing.{flow_if}
use Rattle.cf_model.specs.Journals.{IsLegalAs, IsLegalEntry, IsLegalStep, MayUseAll, Next, action_uses, can_go, makes, owners_of}
use Rattle.cf_model.specs.Known.{facts_of}
use Rattle.cf_model.specs.Own.{own_reference}
use Rattle.cf_model.specs.State.{State, stand_at}
use Rattle.cf_model.specs.Steps.{answer_if, bindings_of, cut_flow, demanded, depth_of, done_by, frames_at, release_step, retain_step}
use Rattle.cf_model.specs.declared.entry.Entry.{Entry}

-- ---- the next action is legal

abbrev IsOfThread : Action → Type 0
IsOfThread (actions.Tick n) = ⊥
IsOfThread actions.Stall = ⊥
IsOfThread _ = Unit {0}

legal_as : (s : Script) (st : State) (e : Entry) (a : Action) → IsOfThread a → IsLegalStep s st e → IsLegalAs s st e a
legal_as s st e (actions.Tick n) of h = absurd of
legal_as s st e actions.Stall of h = absurd of
legal_as s st e a of h = h

statement_of_thread : (x : Statement) (site : Site) → IsOfThread (action_of x site)
statement_of_thread (forms.Retain v) site = tt
statement_of_thread x site = tt

line_of_thread : (c : Script) (facts : Facts) (t : ℕ) (f : Frame) (x : BlockLine)
    → IsOfThread (line_action c facts t f x)
line_of_thread c facts t f (begins v) = tt
line_of_thread c facts t f (claims k v) = tt
line_of_thread c facts t f (says x) = statement_of_thread x (site_in c f (says x))
line_of_thread c facts t f (packs u k v) = tt

phase_of_thread : (p : Phase) → IsOfThread (phase_action p)
phase_of_thread (phases.Note a) = tt
phase_of_thread p = tt

demand_of_thread : (c : Script) (facts : Facts) (t : ℕ) (fs : List Frame) (d : Demand)
    → IsOfThread (action_in c facts t fs d)
demand_of_thread c facts t fs (does x) = line_of_thread c facts t (top_frame fs) x
demand_of_thread c facts t fs (enters p) = phase_of_thread p
demand_of_thread c facts t fs d = tt

pub next_uses : (c : Script) (st : State) (t : ℕ) (a : Action) → FitsByBlock c → IsSound c st → Next c st t ≡ Some a
    → MayUseAll st t (owners_of a) (action_uses a)
next_uses c st t a own h e =
    let acts = next_is c st t a e in
    subst (λ (b : Action). MayUseAll st t (owners_of b) (action_uses b)) acts.action (demand_may c t st h own acts.demand acts.demands)

pub legal_next : (c : Script) (st : State) (t : ℕ) (a : Action) → FitsByBlock c → IsSound c st → Next c st t ≡ Some a
    → (IsTrue (makes c st t) → length st.parts.objects < OBJECTS)
    → IsLegalEntry c st (record { thread = t; action = a; answer = answer_if c t st (demanded c st t) })
legal_next c st t a own h e room =
    let acts = next_is c st t a e in
    let answer = answer_if c t st (demanded c st t) in
    legal_as c st (record { thread = t; action = a; answer = answer }) a
    (subst IsOfThread acts.action (demand_of_thread c (facts_of st) t (frames_at t st) acts.demand))
    (record {
      next = e;
      uses = uses_at_most st t (owners_of a) a answer (next_uses c st t a own h e);
      answer = refl;
      room = room;
    })

-- ---- a release takes the variable's own reference

module _ (c : Script) (t v o : ℕ) (st : State) (own : FitsByBlock c) (h : IsSound c st) where
  abbrev x : BlockLine
  x = says (forms.Release v)

  abbrev line_of : Demand → Option BlockLine
  line_of (does y) = Some y
  line_of _ = None

  abbrev Taken : List Frame → Type 0
  Taken fs = own_reference t (variable t (depth_of fs) v) o st.edges ≡ Some (held_by (variable t (depth_of fs) v) o)

  by_frame : (f : Frame) (fs : List Frame) (s : Stand) (d : Demand) → line_of d ≡ Some x → look v f.bindings ≡ Some o
      → OwnHeld c t st.edges (stand f fs s.work s.is_done) → Owns (lines_done c f) f.bindings
      → ((q : ℕ) → owed_in q s.work ≡ 0) → FrameView c (facts_of st) t f d → Taken (f ∷ fs)
  by_frame f fs s _ e is held owns idle (is_line y at) =
      let fit : FitLine (lines_done c f) x = fit_line c f x own (at ∙ e) in
      release_own c t st f fs s.work s.is_done held owns idle v o is fit.ownership
  by_frame f fs s _ e is held owns idle (is_call k called found) = absurd cc
  by_frame f fs s _ e is held owns idle (is_end k) = absurd cc
  by_frame f fs s _ e is held owns idle (is_return k q end) = absurd cc
  by_frame f fs s _ e is held owns idle (is_phase r p q) = absurd cc
  by_frame f fs s _ e is held owns idle (is_close r q) = absurd cc

  by_work : (facts : Facts) (fs : List Frame) (work : List Work) (d : Demand) → line_of d ≡ Some x
      → WorkView facts work d → Taken fs
  by_work facts fs work _ e (first_owes p first) = absurd cc
  by_work facts fs work _ e (first_spends i first) = absurd cc
  by_work facts fs work _ e (first_drops b k p left first) = absurd cc

  by_stand : (s : Stand) (d : Demand) → line_of d ≡ Some x → look v (bindings_of s.frames) ≡ Some o
      → OwnHeld c t st.edges s → FramesFit c s.frames → StandView c (facts_of st) t s d → Taken s.frames
  by_stand s d e is held fits (of_work w view) = by_work (facts_of st) s.frames s.work d e view
  by_stand s d e is held fits (of_frame f fs idle q view) =
      let held_top = subst (λ (gs : List Frame). OwnHeld c t st.edges (record { frames = gs; work = s.work; is_done = s.is_done })) q held in
      let fits_top = subst (FramesFit c) q fits in
      subst Taken (sym q) (by_frame f fs s d e (sym (ap (λ (gs : List Frame). look v (bindings_of gs)) q) ∙ is) held_top fits_top.0 (λ p. idle_owed (facts_of st) s.work p idle) view)

  pub release_takes : demanded c st t ≡ Some (does x) → look v (bindings_of (frames_at t st)) ≡ Some o
      → flow_if c t st (demanded c st t) ≡ shrinks (held_by (variable t (depth_of (frames_at t st)) v) o)
  release_takes e is =
      let s = stand_at t st.stands in
      let taken = by_stand s (does x) refl is (own_held c st t h.held) (h.frames t) (stand_view c (facts_of st) t s (does x) e) in
      ap (flow_if c t st) e
      ∙ ap (λ (object : Option ℕ). (release_step t (variable t (depth_of s.frames) v) st object).flow) is
      ∙ ap cut_flow taken

-- ---- a thread has what it retains next

from_own : (t d v o : ℕ) → from_thread t o (held_by (variable t d v) o) ≡ 1
from_own t d v o = rw (eq-eqb o o refl, eq-eqb t t refl) refl

one_below : (t d v o : ℕ) (e : Reference) → one (held_by (variable t d v) o) e ≤ from_thread t o e
one_below t d v o e = by (same (held_by (variable t d v) o) e) refl
  where
    by : (b : Bool) → same (held_by (variable t d v) o) e ≡ b → counted b ≤ from_thread t o e
    by true q = let f : from_thread t o e ≡ 1 = ap (from_thread t o) (sym (same-equal (held_by (variable t d v) o) e q)) ∙ from_own t d v o in omega (arith, f)
    by false q = omega arith

-- the first has a reference
first_own : (c : Script) (t o : ℕ) (os : List ℕ) (st : State) → FitsByBlock c → IsSound c st
    → First c (facts_of st) t (stand_at t st.stands) o os → 0 < weigh (from_thread t o) st.edges
first_own c t o os st own h f =
    let s = stand_at t st.stands in
    let held = subst (λ (fs : List Frame). OwnHeld c t st.edges (record { frames = fs; work = s.work; is_done = s.is_done })) f.frames (own_held c st t h.held) in
    let fits = subst (FramesFit c) f.frames (h.frames t) in
    let fit = fit_line c f.top (says (forms.Retain f.var)) own f.line in
    let there = variable_there c t st f.top f.below s.work s.is_done held fits.0 (λ q. idle_owed (facts_of st) s.work q f.idle) f.var o f.bound fit.ownership.more in
    omega (arith, there, weigh-le (one (held_by (variable t (length f.below) f.var) o)) (from_thread t o) st.edges (one_below t (length f.below) f.var o))

-- a retain adds to its own object's references alone
retained_other : (t o q : ℕ) (k : Holder) (st : State) (object : Option ℕ) → object ≡ Some o → (o ≡ q → ⊥)
    → weigh (from_thread t q) (flowed (retain_step k st object).flow st.edges) ≡ weigh (from_thread t q) st.edges
retained_other t o q k st None e apart = absurd cc
retained_other t o q k st (Some p) e apart = omega (arith, none (is_thread t (owner_of k)))
  where
    same_object : p ≡ o
    same_object = cc

    none : (b : Bool) → counted ((eqb p q) && b) ≡ 0
    none b = elim (eqb_tells p q) [
      | inl r ↦ absurd (apart (sym same_object ∙ r.1))
      | inr r ↦ by b r.0
    ]
      where
        by : (b : Bool) → eqb p q ≡ false → counted ((eqb p q) && b) ≡ 0
        by b e = rw e refl

retain_own : (c : Script) (t o q : ℕ) (os : List ℕ) (st : State)
    → (f : First c (facts_of st) t (stand_at t st.stands) o os) → (o ≡ q → ⊥)
    → weigh (from_thread t q) (done_by c t st (does (says (forms.Retain f.var)))).edges ≡ weigh (from_thread t q) st.edges
retain_own c t o q os st f apart =
    let object = first_of (used_objects (bindings_of (frames_at t st)) (says (forms.Retain f.var))) in
    let is : object ≡ Some o = ap (λ (fs : List Frame). look f.var (bindings_of fs)) f.frames ∙ f.bound in
    retained_other t o q (variable t (depth_of (frames_at t st)) f.var) st object is apart

pub coming_had : (c : Script) (t q : ℕ) (xs : List ℕ) (st : State) → FitsByBlock c → IsSound c st
    → ahead c (facts_of st) t (stand_at t st.stands) ≡ xs → 0 < times q xs → 0 < weigh (from_thread t q) st.edges
coming_had c t q [] st own h e has = absurd (omega arith)
coming_had c t q (o ∷ os) st own h e has =
    let f = first_comes c (facts_of st) t (stand_at t st.stands) o os e in
    let d : Demand = does (says (forms.Retain f.var)) in
    let new = done_by c t st d in
    let later : (0 < times q os) → 0 < weigh (from_thread t q) new.edges = λ some. coming_had c t q os new own (demand_sound c t st d own h (first_demanded c (facts_of st) t (stand_at t st.stands) o os f)) (rest_comes c t st o os f) some in
    elim (eqb_tells o q) [
      | inl r ↦ subst (λ (n : ℕ). 0 < weigh (from_thread t n) st.edges) r.1 (first_own c t o os st own h f)
      | inr r ↦ let no : counted (eqb o q) ≡ 0 = ap counted r.0 in let l = later (omega (arith, has, no)) in omega (arith, l, retain_own c t o q os st f r.1)
    ]

gate_has : (b : Bool) (xs : List ℕ) (q : ℕ) → 0 < times q (cond b xs []) → 0 < times q xs
gate_has true xs q h = h
gate_has false xs q h = absurd (omega arith)

pub coming_is_had : (c : Script) (t q : ℕ) (st : State) → FitsByBlock c → IsSound c st
    → 0 < times q (next_retains c st t) → 0 < weigh (from_thread t q) st.edges
coming_is_had c t q st own h has =
    let xs = ahead c (facts_of st) t (stand_at t st.stands) in
    coming_had c t q xs st own h refl (gate_has (can_go st t) xs q has)
