-- What an entry does to the references from threads: it changes none of another thread.
use Rattle.std.proofs.Common.{◌≡◌, ℕ, Bool, true, false, List, [], ◌∷◌, ◌++◌, eqb, refl, sym, ap, ◌∙◌, subst, arith, inl, inr}
use Rattle.std.specs.Prelude.{◌&&◌}
use Rattle.std.proofs.lemmas.Bool.Decides.{eqb_tells}
use Rattle.cf_ids.specs.declared.answer.Answer.{Answer}
use Rattle.cf_syntax.specs.declared.script.Script.{Script}
use Rattle.cf_graph.specs.Owners.{is_thread}
use Rattle.cf_graph.specs.Holders.{Holder, variable, callout, owed, parcel, slot, in_mode, in_common, owner_of}
use Rattle.cf_graph.specs.Edges.{Reference, weigh, counted, from_thread}
use Rattle.cf_graph.specs.Operations.{moved}
use Rattle.cf_graph.specs.Flows.{Move, Flow, grows, shrinks, flowed, flow_won, flow_lost, won_by_moves, lost_by_moves, IsThere}
use Rattle.cf_graph.proofs.Flows.{IsOwn, AllOwn, MovesOwn, FlowOwn, weigh-flow, degree-flow}
use Rattle.cf_next.specs.declared.action.Action.{Action}
use Rattle.cf_model.specs.declared.entry.Entry.{Entry}
use Rattle.cf_model.specs.State.{State, start}
use Rattle.cf_model.specs.Steps.{Step, step_of, frames_at}
use Rattle.cf_model.specs.Journals.{after_action, state_from, After, IsLegalAs, IsLegal}
use Rattle.cf_model.specs.Coming.{NoneBy, OwnStays}
use Rattle.cf_model.specs.Changes.{IsOneWay, OneWay, rises, falls}
use Rattle.cf_model.proofs.Entries.{ActionView, is_tick, is_stall, is_step, action_view, state-append}
use Rattle.cf_model.proofs.Fitting.{StepFits}
use Rattle.cf_model.proofs.Steady.{IsSteady, start_steady}
use Rattle.cf_model.proofs.Acting.{legal_done}
use Rattle.cf_model.proofs.Finality.{step_after, legal_keeps, IsLegalPart, part_of_legal, kept_part}

no_eqb : (t w u : ℕ) → w ≡ u → (t ≡ u → ⊥) → eqb t w ≡ false
no_eqb t w u e apart = elim (eqb_tells t w) [
  | inl q ↦ absurd (apart (q.1 ∙ e))
  | inr q ↦ q.0
]

-- another thread's holder is none of this one's
not_from : (t u : ℕ) (h : Holder) → IsOwn u h → (t ≡ u → ⊥) → is_thread t (owner_of h) ≡ false
not_from t u (variable w d v) own apart = no_eqb t w u own apart
not_from t u (callout w d) own apart = no_eqb t w u own apart
not_from t u (owed w) own apart = no_eqb t w u own apart
not_from t u (parcel w k) own apart = refl
not_from t u (slot b) own apart = refl
not_from t u (in_mode w m) own apart = refl
not_from t u (in_common w) own apart = refl

and-false : (a b : Bool) → b ≡ false → counted (a && b) ≡ 0
and-false true b e = ap counted e
and-false false b e = refl

none_from : (t u o : ℕ) (r : Reference) → IsOwn u r.holder → (t ≡ u → ⊥) → from_thread t o r ≡ 0
none_from t u o r own apart = and-false (eqb r.object o) (is_thread t (owner_of r.holder)) (not_from t u r.holder own apart)

all_none : (t u o : ℕ) (rs : List Reference) → AllOwn u rs → (t ≡ u → ⊥) → weigh (from_thread t o) rs ≡ 0
all_none t u o [] own apart = refl
all_none t u o (r ∷ rs) own apart = omega (arith, none_from t u o r own.0 apart, all_none t u o rs own.1 apart)

moves_none : (t u o : ℕ) (ms : List Move) → MovesOwn u ms → (t ≡ u → ⊥)
    → (won_by_moves (from_thread t o) ms ≡ 0) × (lost_by_moves (from_thread t o) ms ≡ 0)
moves_none t u o [] own apart = (refl, refl)
moves_none t u o (m ∷ ms) own apart =
    let rest = moves_none t u o ms own.2 apart in
    (omega (arith, none_from t u o (moved m.from m.to) own.1 apart, rest.0), omega (arith, none_from t u o m.from own.0 apart, rest.1))

flow_none : (t u o : ℕ) (f : Flow) → FlowOwn u f → (t ≡ u → ⊥)
    → (flow_won (from_thread t o) f ≡ 0) × (flow_lost (from_thread t o) f ≡ 0)
flow_none t u o (grows es ms) own apart = let m = moves_none t u o ms own.1 apart in (omega (arith, all_none t u o es own.0 apart, m.0), m.1)
flow_none t u o (shrinks r) own apart = (refl, none_from t u o r own apart)

-- a legal entry of another thread
others_own : (t u o : ℕ) (st : State) (step : Step) → StepFits u st step → (t ≡ u → ⊥)
    → weigh (from_thread t o) (flowed step.flow st.edges) ≡ weigh (from_thread t o) st.edges
others_own t u o st step fits apart =
    let none = flow_none t u o step.flow fits.own apart in
    omega (arith, weigh-flow (from_thread t o) step.flow st.edges fits.there, none.0, none.1)

entry_own : (s : Script) (st : State) (u : ℕ) (a : Action) (x : Answer) (t o : ℕ) → IsSteady st → ActionView a
    → IsLegalAs s st (record { thread = u; action = a; answer = x }) a → (t ≡ u → ⊥)
    → weigh (from_thread t o) (after_action s u st a).edges ≡ weigh (from_thread t o) st.edges
entry_own s st u _ x t o h (is_tick n) legal apart = refl
entry_own s st u _ x t o h is_stall legal apart = refl
entry_own s st u a x t o h (is_step _ step) legal apart =
    let e : Entry = record { thread = u; action = a; answer = x } in
    let done = legal_done s st e h (step.legal s st e legal) in
    ap (λ (y : State). weigh (from_thread t o) y.edges) (step_after s st e step done) ∙ others_own t u o st (step_of s u st (frames_at u st) done.acts.demand) done.fits apart

own_from : (s : Script) (st : State) (more : List Entry) (t o : ℕ) → IsSteady st → IsLegalPart s st more → NoneBy t more
    → weigh (from_thread t o) (state_from s st more).edges ≡ weigh (from_thread t o) st.edges
own_from s st [] t o h legal none = refl
own_from s st (e ∷ more) t o h legal none =
    own_from s (after_action s e.thread st e.action) more t o (legal_keeps s st e h legal.0).steady legal.1 none.1
    ∙ entry_own s st e.thread e.action e.answer t o h (action_view e.action) legal.0 none.0

pub split_part : (s : Script) (st : State) (es more : List Entry) → IsLegalPart s st (es ++ more)
    → IsLegalPart s st es × IsLegalPart s (state_from s st es) more
split_part s st [] more h = (tt, h)
split_part s st (e ∷ es) more h = let r = split_part s (after_action s e.thread st e.action) es more h.1 in ((h.0, r.0), r.1)

pub own_stays : (s : Script) (journal more : List Entry) (t : ℕ) → IsLegal s (journal ++ more)
    → OwnStays s journal more t
own_stays s journal more t legal o none =
    let parts = split_part s (start s) journal more (part_of_legal s (start s) (journal ++ more) legal) in
    let steady = (kept_part s (start s) journal (start_steady s) parts.0).steady in
    ap (λ (st : State). weigh (from_thread t o) st.edges) (state-append s (start s) journal more) ∙ own_from s (After s journal) more t o steady parts.1 none

-- ---- no entry both adds and takes away

flow_one_way : (f : Flow) (es : List Reference) → IsThere f es → OneWay es (flowed f es)
flow_one_way (grows ins ms) es can = rises (λ o. omega (arith, degree-flow o (grows ins ms) es can))
flow_one_way (shrinks r) es can = falls (λ o. omega (arith, degree-flow o (shrinks r) es can))

entry_one_way : (s : Script) (st : State) (u : ℕ) (a : Action) (x : Answer) → IsSteady st → ActionView a
    → IsLegalAs s st (record { thread = u; action = a; answer = x }) a
    → OneWay st.edges (after_action s u st a).edges
entry_one_way s st u _ x h (is_tick n) legal = rises (λ o. omega arith)
entry_one_way s st u _ x h is_stall legal = rises (λ o. omega arith)
entry_one_way s st u a x h (is_step _ step) legal =
    let e : Entry = record { thread = u; action = a; answer = x } in
    let done = legal_done s st e h (step.legal s st e legal) in
    subst (λ (y : State). OneWay st.edges y.edges) (sym (step_after s st e step done)) (flow_one_way (step_of s u st (frames_at u st) done.acts.demand).flow st.edges done.fits.there)

pub one_way : (s : Script) (journal more : List Entry) (e : Entry) → IsLegal s (journal ++ e ∷ more)
    → IsOneWay s journal e
one_way s journal more e legal =
    let parts = split_part s (start s) journal (e ∷ more) (part_of_legal s (start s) (journal ++ e ∷ more) legal) in
    let steady = (kept_part s (start s) journal (start_steady s) parts.0).steady in
    entry_one_way s (After s journal) e.thread e.action e.answer steady (action_view e.action) parts.1.0
