-- What entries do to the references that are not from other threads than some, to what they add references, and how
-- far they move numbers of references.
use Rattle.std.proofs.Common.{◌≡◌, ℕ, ◌+◌, ◌<◌, ◌⊎◌, Bool, true, false, List, [], ◌∷◌, ◌++◌, length, eqb, refl, ap, ◌∙◌, subst, arith, inl, inr, zero, suc, ltb}
use Rattle.std.specs.Prelude.{◌&&◌, ◌==◌}
use Rattle.std.specs.List.{list_any}
use Rattle.cf_ids.specs.declared.answer.Answer.{Answer}
use Rattle.cf_syntax.specs.declared.script.Script.{Script}
use Rattle.cf_graph.specs.Owners.{is_of_no_other}
use Rattle.cf_graph.specs.Holders.{Holder, variable, callout, owed, parcel, slot, in_mode, in_common, owner_of}
use Rattle.cf_graph.specs.Edges.{Reference, weigh, counted, held_with, degree, leading_to}
use Rattle.cf_graph.specs.Operations.{moved}
use Rattle.cf_graph.specs.Flows.{Move, Flow, grows, shrinks, flowed, lost_by_moves, won_by_moves, gains, cuts, IsThere}
use Rattle.cf_graph.proofs.Flows.{IsOwn, AllOwn, MovesOwn, FlowOwn, weigh-flow, degree-flow}
use Rattle.cf_contents.specs.Contents.{times}
use Rattle.cf_next.specs.declared.action.Action.{Action}
use Rattle.cf_model.specs.declared.entry.Entry.{Entry}
use Rattle.cf_model.specs.State.{Parts, State, start}
use Rattle.cf_model.specs.Steps.{Step, step_of, frames_at}
use Rattle.cf_model.specs.Journals.{after_action, After, IsLegalAs, IsLegal}
use Rattle.cf_model.specs.Flowing.{flow_if, flow_in, HeldChanges, GainsFit, ChangesGrow}
use Rattle.cf_model.specs.Changes.{apart}
use Rattle.cf_model.proofs.ChangeLaws.{changes_append}
use Rattle.cf_model.proofs.Balance.{FlowFits}
use Rattle.cf_model.proofs.Entries.{ActionView, is_tick, is_stall, is_step, action_view}
use Rattle.cf_model.proofs.Fitting.{StepFits}
use Rattle.cf_model.proofs.Steady.{IsSteady, start_steady}
use Rattle.cf_model.proofs.Acting.{legal_done}
use Rattle.cf_model.proofs.Finality.{step_after, part_of_legal, kept_part, NeverGained}
use Rattle.cf_model.proofs.Unfinalised.{made_unfinalised}
use Rattle.cf_model.proofs.Owners.{split_part}

module _ (ts : List ℕ) (u : ℕ) (among : list_any (λ t. t == u) ts ≡ true) where
  thread_ours : (w : ℕ) → w ≡ u → list_any (λ t. t == w) ts ≡ true
  thread_ours w e = ap (λ (n : ℕ). list_any (λ t. t == n) ts) e ∙ among

  is_ours : (h : Holder) → IsOwn u h → is_of_no_other ts (owner_of h) ≡ true
  is_ours (variable w d v) own = thread_ours w own
  is_ours (callout w d) own = thread_ours w own
  is_ours (owed w) own = thread_ours w own
  is_ours (parcel w k) own = refl
  is_ours (slot b) own = refl
  is_ours (in_mode w m) own = refl
  is_ours (in_common w) own = refl

  and-is : (a b : Bool) → b ≡ true → counted (a && b) ≡ counted a
  and-is true b e = ap counted e
  and-is false b e = refl

  one_held : (o : ℕ) (r : Reference) → IsOwn u r.holder → held_with ts o r ≡ leading_to o r
  one_held o r own = and-is (eqb r.object o) (is_of_no_other ts (owner_of r.holder)) (is_ours r.holder own)

  all_held : (o : ℕ) (rs : List Reference) → AllOwn u rs → weigh (held_with ts o) rs ≡ degree o rs
  all_held o [] own = refl
  all_held o (r ∷ rs) own = omega (arith, one_held o r own.0, all_held o rs own.1)

  moves_held : (o : ℕ) (ms : List Move) → MovesOwn u ms
      → won_by_moves (held_with ts o) ms ≡ lost_by_moves (held_with ts o) ms
  moves_held o [] own = refl
  moves_held o (m ∷ ms) own = omega (arith, one_held o (moved m.from m.to) own.1, one_held o m.from own.0, moves_held o ms own.2)

  flow_held : (o : ℕ) (f : Flow) (es : List Reference) → FlowOwn u f → IsThere f es
      → weigh (held_with ts o) (flowed f es) + cuts o f ≡ weigh (held_with ts o) es + gains o f
  flow_held o (grows ins ms) es own can = omega (arith, weigh-flow (held_with ts o) (grows ins ms) es can, all_held o ins own.0, moves_held o ms own.1)
  flow_held o (shrinks r) es own can = omega (arith, weigh-flow (held_with ts o) (shrinks r) es can, one_held o r own)

-- a flow moves the number of references to an object by all that it adds and takes away, since it does not do both
pub flow_apart : (o : ℕ) (f : Flow) (es : List Reference) → IsThere f es
    → apart (degree o es) (degree o (flowed f es)) ≡ gains o f + cuts o f
flow_apart o (grows ins ms) es can = omega (arith, degree-flow o (grows ins ms) es can)
flow_apart o (shrinks r) es can = omega (arith, degree-flow o (shrinks r) es can)

-- ---- entries

pub record FlowTells (s : Script) (st : State) (u : ℕ) (a : Action) : Type 0 where
  pub held : (ts : List ℕ) (o : ℕ) → list_any (λ t. t == u) ts ≡ true
      → weigh (held_with ts o) (after_action s u st a).edges + cuts o (flow_in s u st a) ≡ weigh (held_with ts o) st.edges + gains o (flow_in s u st a)
  pub gained : (o : ℕ) → 0 < gains o (flow_in s u st a)
      → ((times o st.parts.finalised ≡ 0) × (o < length st.parts.objects)) ⊎ (o ≡ length st.parts.objects)
  pub changed : (o : ℕ)
      → apart (degree o st.edges) (degree o (after_action s u st a).edges) ≡ gains o (flow_in s u st a) + cuts o (flow_in s u st a)

flow_gains : (st : State) (p : Parts) (f : Flow) (o : ℕ) → FlowFits st p f → 0 < gains o f
    → ((times o st.parts.finalised ≡ 0) × (o < length st.parts.objects)) ⊎ (o ≡ length st.parts.objects)
flow_gains st p (grows ins ms) o fits some = elim (fits.live o some) [ inl live ↦ inl live | inr new ↦ inr new.0 ]
flow_gains st p (shrinks r) o fits some = absurd (omega (arith, some))

step_tells : (s : Script) (st : State) (u : ℕ) (a : Action) (step : Step)
    → (after_action s u st a).edges ≡ flowed step.flow st.edges → flow_in s u st a ≡ step.flow → StepFits u st step
    → FlowTells s st u a
step_tells s st u a step after flow fits = record {
  held = λ ts o among. rw (after, flow) (flow_held ts u among o step.flow st.edges fits.own fits.there);
  gained = λ o some. flow_gains st step.parts step.flow o fits.flow (subst (λ (f : Flow). 0 < gains o f) flow some);
  changed = λ o. rw (after, flow) (flow_apart o step.flow st.edges fits.there);
}

pub entry_tells : (s : Script) (st : State) (u : ℕ) (a : Action) (x : Answer) → IsSteady st → ActionView a
    → IsLegalAs s st (record { thread = u; action = a; answer = x }) a → FlowTells s st u a
entry_tells s st u _ x h (is_tick n) legal = record { held = λ ts o among. refl; gained = λ o some. absurd (omega (arith, some)); changed = λ o. omega arith }
entry_tells s st u _ x h is_stall legal = record { held = λ ts o among. refl; gained = λ o some. absurd (omega (arith, some)); changed = λ o. omega arith }
entry_tells s st u a x h (is_step _ step) legal =
    let e : Entry = record { thread = u; action = a; answer = x } in
    let done = legal_done s st e h (step.legal s st e legal) in
    step_tells s st u a (step_of s u st (frames_at u st) done.acts.demand)
    (ap (λ (y : State). y.edges) (step_after s st e step done))
    (step.flow s u st ∙ ap (flow_if s u st) done.acts.demands) done.fits

pub entry_flow : (s : Script) (journal more : List Entry) (e : Entry) → IsLegal s (journal ++ e ∷ more)
    → FlowTells s (After s journal) e.thread e.action
entry_flow s journal more e legal =
    let parts = split_part s (start s) journal (e ∷ more) (part_of_legal s (start s) (journal ++ e ∷ more) legal) in
    let steady = (kept_part s (start s) journal (start_steady s) parts.0).steady in
    entry_tells s (After s journal) e.thread e.action e.answer steady (action_view e.action) parts.1.0

pub held_changes : (s : Script) (journal more : List Entry) (e : Entry) (ts : List ℕ) → IsLegal s (journal ++ e ∷ more)
    → HeldChanges s journal e ts
held_changes s journal more e ts legal o among = (entry_flow s journal more e legal).held ts o among

pub gains_fit : (s : Script) (journal more : List Entry) (e : Entry) → IsLegal s (journal ++ e ∷ more)
    → GainsFit s journal e
gains_fit s journal more e legal o some = (entry_flow s journal more e legal).gained o some

pub changes_grow : (s : Script) (journal more : List Entry) (e : Entry) → IsLegal s (journal ++ e ∷ more)
    → ChangesGrow s journal e
changes_grow s journal more e legal o =
    omega (arith, changes_append s o journal (e ∷ []), (entry_flow s journal more e legal).changed o)

-- ---- what was finalised

none_if : (n : ℕ) → (0 < n → ⊥) → n ≡ 0
none_if zero none = refl
none_if (suc n) none = absurd (none (omega arith))

-- what an entry adds a reference to is not finalised
pub never_gained : (s : Script) (es : List Entry) → IsLegal s es → NeverGained s es
never_gained s es h earlier later e o parts some =
    let legal = subst (IsLegal s) parts h in
    let part = (split_part s (start s) earlier (e ∷ later) (part_of_legal s (start s) (earlier ++ e ∷ later) legal)).0 in
    let kept = kept_part s (start s) earlier (start_steady s) part in
    let st = After s earlier in
    let made = length st.parts.objects in
    let final : 0 < times o st.parts.finalised = omega (arith, some, kept.finals o) in
    let unmade : times made st.parts.finalised ≡ 0 = made_unfinalised made (times made st.parts.finalised) (ltb 0 (degree made st.edges)) (kept.steady.balance made) in
    none_if (gains o (flow_in s e.thread st e.action)) (λ more. elim (gains_fit s earlier later e legal o more) [
      | inl live ↦ omega (arith, final, live.0)
      | inr new ↦ omega (arith, final, ap (λ (n : ℕ). times n st.parts.finalised) new, unmade)
    ])
