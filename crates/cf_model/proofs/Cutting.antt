-- What the flow of a thread's action takes away is what the action says.
use Rattle.std.proofs.Common.{◌≡◌, ℕ, ◌+◌, ◌<◌, Bool, true, false, cond, eqb, List, [], ◌∷◌, length, Option, Some, None, refl, sym, ap, ◌∙◌, subst, arith}
use Rattle.std.specs.Prelude.{◌&&◌, ◌||◌}
use Rattle.std.proofs.lemmas.Bool.{eq-eqb}
use Rattle.cf_syntax.specs.declared.script.Script.{Script}
use Rattle.cf_syntax.specs.declared.statement.Statement.{Statement}
use Rattle.cf_syntax.specs.declared.statement.Statement.TheVariants as forms
use Rattle.cf_syntax.specs.declared.mention.Ownership.{Ownership}
use Rattle.cf_syntax.specs.declared.mention.Ownership.TheVariants.{Keeps, Binds, Retains, Releases}
use Rattle.cf_syntax.specs.Mentions.{ownership_of, first_of}
use Rattle.cf_syntax.specs.Owned.{Owned}
use Rattle.cf_syntax.proofs.BlockLaws.{owned_fits}
use Rattle.cf_syntax.specs.BlockLines.{BlockLine, begins, claims, packs, says}
use Rattle.cf_graph.specs.declared.edge.Owner.{Owner}
use Rattle.cf_graph.specs.Owners.{is_thread}
use Rattle.cf_graph.specs.Holders.{Holder, variable, owed, parcel, owner_of}
use Rattle.cf_graph.specs.Edges.{Reference, counted, from_thread, has, held_by, weigh}
use Rattle.cf_graph.specs.Flows.{Flow, cut_of as taken_by, cuts, gains, grows, shrinks}
use Rattle.cf_next.specs.declared.action.Action.{Action}
use Rattle.cf_next.specs.Actions.{Site, action_of, cut_of}
use Rattle.rl_base.specs.Dates.{has_come}
use Rattle.rl_turn.specs.declared.phases.Phase.{Phase}
use Rattle.rl_turn.specs.declared.phases.Phase.TheVariants as phases
use Rattle.cf_next.specs.Stands.{Frame, Kind, Turn, of_block, of_handler, of_run}
use Rattle.cf_next.specs.Demands.{Demand, calls, closes, does, drops, ends, enters, owes, returns, spends}
use Rattle.cf_next.specs.Advance.{top_kind}
use Rattle.cf_next.specs.Next.{action_in, object_at, phase_action, site_in, top_frame, used_objects}
use Rattle.cf_model.specs.State.{Parts, State, first_held, flags_at}
use Rattle.cf_model.specs.Known.{facts_of}
use Rattle.cf_model.specs.Own.{first_from, own_reference}
use Rattle.cf_model.specs.Things.{mode_date}
use Rattle.cf_model.specs.Steps.{Step, bindings_of, claim_step, close_step, cut_flow, cut_step, depth_of, frames_at, pack_step, packed_holder, phase_step, release_step, retain_step, statement_step, step_of, turn_step, unwoken_step}
use Rattle.cf_model.specs.declared.entry.Entry.{Entry}
use Rattle.cf_model.specs.Flowing.{flow_if, flow_in}
use Rattle.cf_model.specs.Journals.{After, MayTake, MayUseAll, Next, Use, action_uses, owners_of, takes, uses_if}
use Rattle.cf_model.proofs.Acting.{next_is, site_used}
use Rattle.cf_model.proofs.Balance.{FlowFits}
use Rattle.cf_model.proofs.Entries.{ActionView, action_view, is_stall, is_step, is_tick}
use Rattle.cf_model.proofs.Finality.{CutBy}
use Rattle.cf_model.proofs.OwnLaws.{IsOf, own_is}
use Rattle.cf_model.proofs.OwnedNext.{next_uses}
use Rattle.cf_model.proofs.Sound.{sound}

-- a flow takes a reference to this object away, or it takes none
abbrev pub CutsAs : Option ℕ → Flow → Type 0
CutsAs None (grows ins ms) = Unit {0}
CutsAs None (shrinks r) = ⊥
CutsAs (Some o) (grows ins ms) = ⊥
CutsAs (Some o) (shrinks r) = r.object ≡ o

-- ---- what is there is found

first_if : (b : Bool) (t o : ℕ) (r : Reference) (rs : List Reference)
    → ((eqb r.object o) && is_thread t (owner_of r.holder)) ≡ b
    → 0 < counted b + weigh (from_thread t o) rs → (0 < weigh (from_thread t o) rs → first_from t o rs ≡ None → ⊥)
    → cond b (Some r) (first_from t o rs) ≡ None → ⊥
first_if true t o r rs e some rest none = cc
first_if false t o r rs e some rest none = rest (omega (arith, some)) none

first_some : (t o : ℕ) (es : List Reference) → 0 < weigh (from_thread t o) es → first_from t o es ≡ None → ⊥
first_some t o [] some none = omega (arith, some)
first_some t o (r ∷ rs) some none =
    first_if ((eqb r.object o) && is_thread t (owner_of r.holder)) t o r rs refl some (first_some t o rs) none

own_some : (t : ℕ) (h : Holder) (o : ℕ) (es : List Reference) → 0 < weigh (from_thread t o) es
    → own_reference t h o es ≡ None → ⊥
own_some t h o es some none = by (has h o es) none
  where
    by : (b : Bool) → cond b (Some (held_by h o)) (first_from t o es) ≡ None → ⊥
    by true q = cc
    by false q = first_some t o es some q

cut_there : (t o : ℕ) (h : Holder) (st : State) → IsOf t h → MayTake st t o → CutsAs (Some o) (cut_step t h st o).flow
cut_there t o h st of may = by (own_reference t h o st.edges) refl
  where
    by : (q : Option Reference) → own_reference t h o st.edges ≡ q → CutsAs (Some o) (cut_flow q)
    by None e = absurd (own_some t h o st.edges may.edge e)
    by (Some r) e = (own_is t h o st.edges r of e).object

-- ---- statements

statement_cut : (x : Statement) (site : Site) → CutBy (ownership_of x) (cut_of (action_of x site)) site.used
statement_cut (forms.Release v) site = refl
statement_cut x site = refl

-- what a release uses it takes
abbrev TakesBy : Ownership → List Use → List (Option ℕ) → Type 0
TakesBy (Releases v) uses used = uses ≡ uses_if takes (first_of used)
TakesBy _ uses used = Unit {0}

statement_takes : (x : Statement) (site : Site) → TakesBy (ownership_of x) (action_uses (action_of x site)) site.used
statement_takes (forms.Release v) site = refl
statement_takes x site = tt

retain_cuts : (h : Holder) (st : State) (object : Option ℕ) → CutsAs None (retain_step h st object).flow
retain_cuts h st None = tt
retain_cuts h st (Some o) = tt

release_cuts : (t : ℕ) (h : Holder) (st : State) (owners : List Owner) (object : Option ℕ) → IsOf t h
    → MayUseAll st t owners (uses_if takes object) → CutsAs object (release_step t h st object).flow
release_cuts t h st owners None of may = tt
release_cuts t h st owners (Some o) of may = cut_there t o h st of may.0

statement_cuts : (s : Script) (t d : ℕ) (st : State) (x : Statement) (used : List (Option ℕ)) (ownership : Ownership)
    (c : Option ℕ) (uses : List Use) (owners : List Owner) → CutBy ownership c used → TakesBy ownership uses used
    → MayUseAll st t owners uses → CutsAs c (statement_step s t d st x used ownership).flow
statement_cuts s t d st x used Keeps c uses owners e u may = subst (λ (o : Option ℕ). CutsAs o (statement_step s t d st x used Keeps).flow) (sym e) tt
statement_cuts s t d st x used (Binds v) c uses owners e u may = subst (λ (o : Option ℕ). CutsAs o (statement_step s t d st x used (Binds v)).flow) (sym e) tt
statement_cuts s t d st x used (Retains v) c uses owners e u may = subst (λ (o : Option ℕ). CutsAs o (statement_step s t d st x used (Retains v)).flow) (sym e) (retain_cuts (variable t d v) st (first_of used))
statement_cuts s t d st x used (Releases v) c uses owners e u may = subst (λ (o : Option ℕ). CutsAs o (statement_step s t d st x used (Releases v)).flow) (sym e) (release_cuts t (variable t d v) st owners (first_of used) (eq-eqb t t refl) (subst (MayUseAll st t owners) u may))

claim_cuts : (st : State) (h : Holder) (object : Option ℕ) (k : Holder) → CutsAs None (claim_step st h object k).flow
claim_cuts st h None k = tt
claim_cuts st h (Some o) k = tt

pack_cuts : (t : ℕ) (st : State) (h : Holder) (object : Option ℕ) (k : Holder)
    → CutsAs None (pack_step t st h object k).flow
pack_cuts t st h None k = tt
pack_cuts t st h (Some o) k = tt

-- ---- lines and phases

line_cuts : (s : Script) (t : ℕ) (st : State) (fs : List Frame) (owners : List Owner) (x : BlockLine)
    → MayUseAll st t owners (action_uses (action_in s (facts_of st) t fs (does x)))
    → CutsAs (cut_of (action_in s (facts_of st) t fs (does x))) (step_of s t st fs (does x)).flow
line_cuts s t st fs owners (begins v) may = tt
line_cuts s t st fs owners (claims k v) may =
    claim_cuts st (parcel t k) (first_held (parcel t k) st.edges) (variable t (depth_of fs) v)
line_cuts s t st fs owners (packs u k v) may =
    pack_cuts t st (packed_holder t (depth_of fs) v) (object_at (bindings_of fs) v) (parcel u k)
line_cuts s t st fs owners (says x) may =
    let site = site_in s (top_frame fs) (says x) in
    let used = used_objects (bindings_of fs) (says x) in
    let same : site.used ≡ used = site_used s fs (says x) in
    let c = cut_of (action_of x site) in
    let uses = action_uses (action_of x site) in
    statement_cuts s t (depth_of fs) st x used (ownership_of x) c uses owners
    (subst (CutBy (ownership_of x) c) same (statement_cut x site))
    (subst (TakesBy (ownership_of x) uses) same (statement_takes x site)) may

-- a phase of a run changes no reference
either_cuts : (b : Bool) (x y : Step) → CutsAs None x.flow → CutsAs None y.flow → CutsAs None (cond b x y).flow
either_cuts true x y p q = p
either_cuts false x y p q = q

turn_cuts : (t : ℕ) (st : State) (r : Turn) (p : Phase) → CutsAs None (turn_step st t r p).flow
turn_cuts t st r (phases.Note a) = tt
turn_cuts t st r phases.Sources = tt
turn_cuts t st r phases.Timers = tt
turn_cuts t st r phases.Test = tt
turn_cuts t st r phases.Ran = tt
turn_cuts t st r phases.Sleep =
    let date = mode_date st t r.mode in
    either_cuts (flags_at t st.parts.flags).is_woken _ (unwoken_step st t r) tt
    (either_cuts (has_come r.deadline st.parts.time || has_come date st.parts.time) _ _ tt tt)

phase_cuts : (t : ℕ) (st : State) (p : Phase) (k : Kind) → CutsAs None (phase_step st t p k).flow
phase_cuts t st p (of_run r) = turn_cuts t st r p
phase_cuts t st p of_block = tt
phase_cuts t st p (of_handler q) = tt

phase_cut : (p : Phase) → cut_of (phase_action p) ≡ None
phase_cut (phases.Note a) = refl
phase_cut phases.Sources = refl
phase_cut phases.Timers = refl
phase_cut phases.Sleep = refl
phase_cut phases.Test = refl
phase_cut phases.Ran = refl

close_cuts : (st : State) (k : Kind) → CutsAs None (close_step st k).flow
close_cuts st (of_run r) = tt
close_cuts st of_block = tt
close_cuts st (of_handler q) = tt

-- what a demand takes away is what its action says
pub demand_cuts : (s : Script) (t : ℕ) (st : State) (fs : List Frame) (owners : List Owner) (d : Demand)
    → MayUseAll st t owners (action_uses (action_in s (facts_of st) t fs d))
    → CutsAs (cut_of (action_in s (facts_of st) t fs d)) (step_of s t st fs d).flow
demand_cuts s t st fs owners (does x) may = line_cuts s t st fs owners x may
demand_cuts s t st fs owners ends may = tt
demand_cuts s t st fs owners returns may = tt
demand_cuts s t st fs owners (owes o) may = cut_there t o (owed t) st (eq-eqb t t refl) may.0
demand_cuts s t st fs owners (spends i) may = tt
demand_cuts s t st fs owners (drops b k o) may = refl
demand_cuts s t st fs owners (calls k c) may = tt
demand_cuts s t st fs owners (enters p) may =
    subst (λ (o : Option ℕ). CutsAs o (phase_step st t p (top_kind fs)).flow) (sym (phase_cut p)) (phase_cuts t st p (top_kind fs))
demand_cuts s t st fs owners closes may = close_cuts st (top_kind fs)

-- ---- counts

-- 1 for this object
abbrev pub one_cut : ℕ → Option ℕ → ℕ
one_cut o None = 0
one_cut o (Some p) = counted (eqb p o)

pub cuts_are : (c : Option ℕ) (f : Flow) (o : ℕ) → CutsAs c f → cuts o f ≡ one_cut o c
cuts_are None (grows ins ms) o h = refl
cuts_are None (shrinks r) o h = absurd h
cuts_are (Some p) (grows ins ms) o h = absurd h
cuts_are (Some p) (shrinks r) o h = ap (λ (n : ℕ). counted (eqb n o)) h

pub gains_none : (p : ℕ) (f : Flow) (o : ℕ) → CutsAs (Some p) f → gains o f ≡ 0
gains_none p (grows ins ms) o h = absurd h
gains_none p (shrinks r) o h = refl

-- an entry that takes a reference away makes no object
pub cut_size : (st : State) (p : Parts) (o : ℕ) (f : Flow) → CutsAs (Some o) f → FlowFits st p f
    → length p.objects ≡ length st.parts.objects
cut_size st p o (grows ins ms) h fits = absurd h
cut_size st p o (shrinks r) h fits = fits

-- ---- the next action of a thread of an owned script

pub taken_is : (c : Option ℕ) (f : Flow) → CutsAs c f → taken_by f ≡ c
taken_is None (grows ins ms) h = refl
taken_is None (shrinks r) h = absurd h
taken_is (Some o) (grows ins ms) h = absurd h
taken_is (Some o) (shrinks r) h = ap (λ (p : ℕ). Some p) h

pub next_takes : (s : Script) (es : List Entry) (t : ℕ) (a : Action) → Owned s → Next s (After s es) t ≡ Some a
    → taken_by (flow_in s t (After s es) a) ≡ cut_of a
next_takes s es t a owned e = by a (action_view a) e
  where
    by : (b : Action) → ActionView b → Next s (After s es) t ≡ Some b
        → taken_by (flow_in s t (After s es) b) ≡ cut_of b
    by _ (is_tick n) q = refl
    by _ is_stall q = refl
    by b (is_step _ step) q =
        let st = After s es in
        let acts = next_is s st t b q in
        let d = acts.demand in
        let may = next_uses s st t b (owned_fits s owned) (sound s es owned) q in
        let flow_is : flow_in s t st b ≡ (step_of s t st (frames_at t st) d).flow = step.flow s t st ∙ ap (flow_if s t st) acts.demands in
        ap taken_by flow_is
        ∙ taken_is (cut_of b) (step_of s t st (frames_at t st) d).flow (subst (λ (c : Action). CutsAs (cut_of c) (step_of s t st (frames_at t st) d).flow) acts.action
        (demand_cuts s t st (frames_at t st) (owners_of b) d (subst (λ (c : Action). MayUseAll st t (owners_of b) (action_uses c)) (sym acts.action) may)))
