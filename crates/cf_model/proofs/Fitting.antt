-- The step of each demand of a legal entry keeps the balance of each object and the slots of each body, and changes no
-- reference of another thread.
use Rattle.std.proofs.Common.{◌≡◌, ℕ, ◌+◌, ◌<◌, ◌≤◌, Bool, true, false, cond, List, [], ◌∷◌, ◌++◌, length, Option, Some, None, eqb, refl, sym, ap, subst, arith, inl, inr}
use Rattle.std.proofs.lemmas.Bool.{eq-eqb}
use Rattle.std.proofs.lemmas.Bool.Decides.{nat_tests, eqb_tells}
use Rattle.cf_ids.specs.declared.answer.Answer.{Answer}
use Rattle.cf_contents.specs.Contents.{times}
use Rattle.cf_graph.specs.Holders.{Holder, variable, callout, owed, parcel, slot, same_holder}
use Rattle.cf_graph.specs.Edges.{Reference, held_by, held_if, same, weigh, one, counted, degree, leading_to}
use Rattle.cf_graph.specs.Flows.{grows, shrinks, still, flow_won, flow_lost, IsThere}
use Rattle.cf_graph.proofs.Same.{same-equal}
use Rattle.cf_graph.proofs.Flows.{FlowOwn, AllOwn, MovesOwn, IsOwn, holders_apart}
use Rattle.cf_graph.proofs.Counts.{weigh-append}
use Rattle.cf_model.specs.State.{Parts, State, left_of, first_held}
use Rattle.cf_model.specs.Own.{own_reference, own_references, moves_to}
use Rattle.cf_model.specs.Deals.{Deal}
use Rattle.cf_model.specs.Steps.{Step, idle, flowing, cut_flow, cut_step, release_step, retain_step, deal_step, claim_step, pack_step, call_references, return_step}
use Rattle.cf_model.proofs.Balance.{IsLive, Adds, FlowFits}
use Rattle.cf_model.proofs.OwnLaws.{IsOf, of_own, OwnIs, own_is, AllOf, OwnAre, own_are}
use Rattle.cf_model.proofs.Places.{places_own, owed_own, moves_lost, moves_other, kinds_apart}
use Rattle.cf_model.proofs.DealLaws.{FitsDeal, SameBodies, same_bodies}

pub record StepFits (t : ℕ) (st : State) (step : Step) : Type 0 where
  pub own : FlowOwn t step.flow
  pub there : IsThere step.flow st.edges
  pub finalised : step.parts.finalised ≡ st.parts.finalised
  pub undropped : (a : ℕ) → times a st.parts.finalised ≡ 0 → times a step.parts.dropped ≡ times a st.parts.dropped
  pub flow : FlowFits st step.parts step.flow
  pub slots : (b o : ℕ)
      → times o (left_of step.parts.objects step.parts.dropped b) + flow_lost (one (held_by (slot b) o)) step.flow ≡ times o (left_of st.parts.objects st.parts.dropped b) + flow_won (one (held_by (slot b) o)) step.flow

live_adds : (st : State) (p : Parts) (ins : List Reference) → length p.objects ≡ length st.parts.objects
    → ((o : ℕ) → 0 < degree o ins → IsLive st o)
    → Adds st.parts.finalised (length st.parts.objects) (length p.objects) ins
live_adds st p ins size live = record { live = λ o some. inl (live o some); new = λ e. absurd (omega (arith, size, e)); sizes = inl size }

none_adds : (st : State) (p : Parts) → length p.objects ≡ length st.parts.objects
    → Adds st.parts.finalised (length st.parts.objects) (length p.objects) []
none_adds st p size = live_adds st p [] size (λ o some. absurd (omega arith))

-- ---- steps that move nothing

pub still_fits : (t : ℕ) (st : State) (step : Step) → SameBodies st step.parts → step.flow ≡ still → StepFits t st step
still_fits t st step same e = record {
  own = subst (FlowOwn t) (sym e) (tt, tt);
  there = subst (λ f. IsThere f st.edges) (sym e) (λ r. omega arith);
  finalised = same.shape.finalised;
  undropped = λ a z. ap (times a) same.shape.dropped;
  flow = subst (FlowFits st step.parts) (sym e) (none_adds st step.parts same.shape.size);
  slots = λ b o. rw (e, same.left b) refl;
}

pub idle_fits : (t : ℕ) (st : State) (answer : Answer) → StepFits t st (idle st answer)
idle_fits t st answer = still_fits t st (idle st answer) (same_bodies st) refl

-- ---- deals

pub deal_fits : (t : ℕ) (st : State) (deal : Deal) (posts : List ℕ) → FitsDeal st deal
    → StepFits t st (deal_step t deal posts)
deal_fits t st deal posts h = record {
  own = (places_own t deal.enters h.ins, owed_own t deal.leaves h.outs);
  there = λ r. omega (arith, moves_lost (owed t) (one r) deal.leaves, h.can r);
  finalised = h.shape.finalised;
  undropped = λ a z. ap (times a) h.shape.dropped;
  flow = live_adds st deal.parts deal.enters h.shape.size h.live;
  slots = λ b o. omega (arith, h.slots b o, moves_lost (owed t) (one (held_by (slot b) o)) deal.leaves, moves_other (owed t) (held_by (slot b) o) deal.leaves (kinds_apart (slot b) (owed t) refl));
}

-- ---- references of the thread

not_slot : (t b : ℕ) (h : Holder) → IsOf t h → slot b ≡ h → ⊥
not_slot t b h of e = let no : IsOf t (slot b) = subst (IsOf t) (sym e) of in absurd cc

one_slot : (t b o : ℕ) (q : Reference) → IsOf t q.holder → one (held_by (slot b) o) q ≡ 0
one_slot t b o q of = holders_apart (held_by (slot b) o) q (not_slot t b q.holder of)

pub one_there : (r q : Reference) (es : List Reference) → 0 < weigh (one q) es → one r q ≤ weigh (one r) es
one_there r q es h = by (same r q) refl
  where
    by : (b : Bool) → same r q ≡ b → counted b ≤ weigh (one r) es
    by true e = subst (λ (p : Reference). 1 ≤ weigh (one p) es) (sym (same-equal r q e)) (omega (arith, h))
    by false e = omega arith

cut_one : (t o : ℕ) (st : State) (answer : Answer) (q : Reference) → OwnIs t o st.edges q
    → StepFits t st (flowing st answer (shrinks q))
cut_one t o st answer q h = record {
  own = of_own t q.holder h.thread;
  there = λ r. one_there r q st.edges h.there;
  finalised = refl;
  undropped = λ a z. refl;
  flow = refl;
  slots = λ b x. omega (arith, one_slot t b x q h.thread);
}

cut_by : (t : ℕ) (h : Holder) (st : State) (o : ℕ) (answer : Answer) (q : Option Reference) → IsOf t h
    → own_reference t h o st.edges ≡ q → StepFits t st (flowing st answer (cut_flow q))
cut_by t h st o answer None of e = idle_fits t st answer
cut_by t h st o answer (Some q) of e = cut_one t o st answer q (own_is t h o st.edges q of e)

pub cut_fits : (t : ℕ) (h : Holder) (st : State) (o : ℕ) → IsOf t h → StepFits t st (cut_step t h st o)
cut_fits t h st o of = cut_by t h st o _ (own_reference t h o st.edges) of refl

pub release_fits : (t : ℕ) (h : Holder) (st : State) (o : Option ℕ) → IsOf t h → StepFits t st (release_step t h st o)
release_fits t h st None of = idle_fits t st _
release_fits t h st (Some o) of = cut_fits t h st o of

-- references that enter where a thread has them
own_if : (t : ℕ) (h : Holder) (object : Option ℕ) → IsOf t h → AllOf t (held_if h object)
own_if t h None of = tt
own_if t h (Some o) of = (of, tt)

of_append : (t : ℕ) (es fs : List Reference) → AllOf t es → AllOf t fs → AllOf t (es ++ fs)
of_append t [] fs a b = b
of_append t (e ∷ es) fs a b = (a.0, of_append t es fs a.1 b)

pub all_own : (t : ℕ) (rs : List Reference) → AllOf t rs → AllOwn t rs
all_own t [] h = tt
all_own t (r ∷ rs) h = (of_own t r.holder h.0, all_own t rs h.1)

slots_none : (t b o : ℕ) (rs : List Reference) → AllOf t rs → weigh (one (held_by (slot b) o)) rs ≡ 0
slots_none t b o [] h = refl
slots_none t b o (r ∷ rs) h = omega (arith, one_slot t b o r h.0, slots_none t b o rs h.1)

-- a step by which a thread gets references to live objects
pub gains_fit : (t : ℕ) (st : State) (step : Step) (rs : List Reference) → SameBodies st step.parts
    → step.flow ≡ grows rs [] → AllOf t rs
    → ((o : ℕ) → 0 < degree o rs → IsLive st o) → StepFits t st step
gains_fit t st step rs same e of live = record {
  own = subst (FlowOwn t) (sym e) (all_own t rs of, tt);
  there = subst (λ f. IsThere f st.edges) (sym e) (λ r. omega arith);
  finalised = same.shape.finalised;
  undropped = λ a z. ap (times a) same.shape.dropped;
  flow = subst (FlowFits st step.parts) (sym e) (live_adds st step.parts rs same.shape.size live);
  slots = λ b o. rw (e, same.left b) (omega (arith, slots_none t b o rs of));
}

leads_if : (o : ℕ) (h : Holder) (object : Option ℕ) → 0 < degree o (held_if h object) → object ≡ Some o
leads_if o h None some = absurd (omega arith)
leads_if o h (Some x) some = elim (eqb_tells x o) [
  | inl e ↦ ap (λ (n : ℕ). Some n) e.1
  | inr e ↦ absurd (let none : counted (eqb x o) ≡ 0 = ap counted e.0 in omega arith)
]

pub retain_fits : (t : ℕ) (h : Holder) (st : State) (object : Option ℕ) → IsOf t h
    → ((o : ℕ) → object ≡ Some o → IsLive st o) → StepFits t st (retain_step h st object)
retain_fits t h st None of live = idle_fits t st _
retain_fits t h st (Some o) of live =
    gains_fit t st (retain_step h st (Some o)) (held_by h o ∷ []) (same_bodies st) refl (of, tt) (λ p some. live p (leads_if p h (Some o) some))

-- references that go to another holder
moves_are_own : (t : ℕ) (k : Holder) (rs : List Reference) → AllOf t rs → IsOwn t k → MovesOwn t (moves_to k rs)
moves_are_own t k [] h own = tt
moves_are_own t k (r ∷ rs) h own = (of_own t r.holder h.0, own, moves_are_own t k rs h.1 own)

pub moves_fit : (t : ℕ) (st : State) (answer : Answer) (k : Holder) (rs : List Reference) → OwnAre t st.edges rs
    → IsOwn t k → ((b : ℕ) → slot b ≡ k → ⊥)
    → StepFits t st (flowing st answer (grows [] (moves_to k rs)))
moves_fit t st answer k rs h own apart = record {
  own = (tt, moves_are_own t k rs h.thread own);
  there = λ r. omega (arith, moves_lost k (one r) rs, h.there r);
  finalised = refl;
  undropped = λ a z. refl;
  flow = none_adds st st.parts refl;
  slots = λ b o. omega (arith, moves_lost k (one (held_by (slot b) o)) rs, slots_none t b o rs h.thread, moves_other k (held_by (slot b) o) rs (apart b));
}

pub pack_fits : (t : ℕ) (st : State) (h : Holder) (object : Option ℕ) (u k : ℕ) → IsOf t h
    → StepFits t st (pack_step t st h object (parcel u k))
pack_fits t st h None u k of = idle_fits t st _
pack_fits t st h (Some o) u k of =
    moves_fit t st _ (parcel u k) (own_references t (held_by h o ∷ []) st.edges) (own_are t (held_by h o ∷ []) st.edges (of, tt)) tt (λ b. kinds_apart (slot b) (parcel u k) refl)

pub return_fits : (t d : ℕ) (st : State) (info item : Option ℕ) → StepFits t st (return_step t d st info item)
return_fits t d st info item =
    let rs = call_references t d info item in
    let of = of_append t (held_if (variable t d 0) info) (held_if (callout t d) item) (own_if t (variable t d 0) info (eq-eqb t t refl)) (own_if t (callout t d) item (eq-eqb t t refl)) in
    moves_fit t st _ (owed t) (own_references t rs st.edges) (own_are t rs st.edges of) refl (λ b. kinds_apart (slot b) (owed t) refl)

pub call_of : (t d : ℕ) (info item : Option ℕ) → AllOf t (call_references t d info item)
call_of t d info item =
    of_append t (held_if (variable t d 0) info) (held_if (callout t d) item) (own_if t (variable t d 0) info (eq-eqb t t refl)) (own_if t (callout t d) item (eq-eqb t t refl))

pub call_leads : (st : State) (t d : ℕ) (info item : Option ℕ) → ((o : ℕ) → info ≡ Some o → IsLive st o)
    → ((o : ℕ) → item ≡ Some o → IsLive st o)
    → (o : ℕ) → 0 < degree o (call_references t d info item) → IsLive st o
call_leads st t d info item live_info live_item o some = elim (eqb_tells (degree o (held_if (variable t d 0) info)) 0) [
  | inl e ↦ live_item o (leads_if o (callout t d) item (omega (arith, some, e.1, weigh-append (leading_to o) (held_if (variable t d 0) info) (held_if (callout t d) item))))
  | inr e ↦ live_info o (leads_if o (variable t d 0) info (positive (degree o (held_if (variable t d 0) info)) e.1))
]
  where
    positive : (n : ℕ) → (n ≡ 0 → ⊥) → 0 < n
    positive n h = grind (arith, nat_tests)

-- a claim moves what the parcel has
pub first_there : (h : Holder) (es : List Reference) (o : ℕ) → first_held h es ≡ Some o
    → 0 < weigh (one (held_by h o)) es
first_there h [] o e = absurd cc
first_there h (r ∷ rs) o e = by (same_holder h r.holder) refl e (first_there h rs o)
  where
    by : (b : Bool) → same_holder h r.holder ≡ b → cond b (Some r.object) (first_held h rs) ≡ Some o
        → (first_held h rs ≡ Some o → 0 < weigh (one (held_by h o)) rs) → 0 < weigh (one (held_by h o)) (r ∷ rs)
    by true test e rest = let same : r.object ≡ o = cc in let here : one (held_by h o) r ≡ 1 = rw (test, same) (ap counted (eq-eqb o o refl)) in omega (arith, here)
    by false test e rest = omega (arith, rest e)

pub claim_fits : (t d v k : ℕ) (st : State) (object : Option ℕ) → first_held (parcel t k) st.edges ≡ object
    → StepFits t st (claim_step st (parcel t k) object (variable t d v))
claim_fits t d v k st None e = idle_fits t st _
claim_fits t d v k st (Some o) e = record {
  own = (tt, (tt, refl, tt));
  there = λ r. omega (arith, one_there r (held_by (parcel t k) o) st.edges (first_there (parcel t k) st.edges o e));
  finalised = refl;
  undropped = λ a z. refl;
  flow = none_adds st st.parts refl;
  slots = λ b x. omega (arith, holders_apart (held_by (slot b) x) (held_by (parcel t k) o) (kinds_apart (slot b) (parcel t k) refl), holders_apart (held_by (slot b) x) (held_by (variable t d v) o) (kinds_apart (slot b) (variable t d v) refl));
}
