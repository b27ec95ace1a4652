-- What one who answers for some threads needs to know of journals.
use Rattle.std.proofs.Common.{◌&&◌, ◌++◌, ◌+◌, ◌<◌, ◌↔◌, ◌∙◌, ◌∷◌, ◌≡◌, ◌≤◌, ◌⊎◌, Bool, List, None, [], ap, arith, cond, eqb, false, inl, inr, length, ltb, map, not, refl, subst, suc, sym, true, zero, ℕ}
use Rattle.std.proofs.lemmas.Bool.{cases_lt, ltb-true}
use Rattle.std.proofs.lemmas.Bool.Decides.{eqb_tells, nat_tests}
use Rattle.std.specs.List.{list_any, range_with_len}
use Rattle.cf_ids.specs.declared.answer.Answer.{Answer}
use Rattle.cf_syntax.specs.declared.script.Script.{Script}
use Rattle.cf_graph.specs.Edges.{Reference, counted, degree, held_by, held_with, leading_to, weigh}
use Rattle.cf_graph.specs.Flows.{Flow, IsThere, flowed, grows, shrinks}
use Rattle.cf_graph.specs.Holders.{Holder, callout, in_common, in_mode, owed, parcel, slot, variable}
use Rattle.cf_next.specs.Ahead.{ahead}
use Rattle.cf_next.specs.Demands.{demand}
use Rattle.cf_next.specs.Next.{action_if}
use Rattle.cf_next.specs.Stands.{Stand, opening_stand}
use Rattle.cf_next.specs.declared.action.Action.{Action}
use Rattle.cf_next.specs.declared.action.Action.TheVariants as actions
use Rattle.cf_model.proofs.Acting.{legal_done}
use Rattle.cf_model.proofs.Balance.{FlowFits, degree-grown, live_led}
use Rattle.cf_model.proofs.Entries.{ActionView, IsStep, action_view, is_stall, is_step, is_tick}
use Rattle.cf_model.proofs.Finality.{IsLegalPart, part_of_legal, step_after}
use Rattle.cf_model.proofs.Steady.{IsSteady, start_steady, step_steady, ticked_steady}
use Rattle.cf_model.specs.Changes.{changes, changes_from}
use Rattle.cf_model.specs.Journals.{After, IsLegal, IsLegalAs, IsLegalEntry, IsLegalStep, after_action, can_go, is_asleep, lead, state_from, tick_flags}
use Rattle.cf_model.specs.Known.{facts_of}
use Rattle.cf_model.specs.Sharing.{IsEmpty, by_lead, from_others, tick_times, times_in}
use Rattle.cf_model.specs.State.{Flags, Parts, State, at_or, blank, flags_at, flags_of, stand_at, start}
use Rattle.cf_model.specs.Steps.{acted, demanded, frames_at, step_of}
use Rattle.cf_model.specs.declared.entry.Entry.{Entry}

-- ---- references in view

of_object : (b x y : Bool) → counted x + counted y ≡ 1 → counted b ≡ counted (b && x) + counted (b && y)
of_object true x y h = omega (arith, h)
of_object false x y h = refl

either_way : (x : Bool) → counted x + counted (not x) ≡ 1
either_way true = refl
either_way false = refl

one_in_view : (ts : List ℕ) (o : ℕ) (h : Holder) (p : ℕ)
    → leading_to o (held_by h p) ≡ held_with ts o (held_by h p) + from_others ts o (held_by h p)
one_in_view ts o (variable t d v) p = of_object (eqb p o) (list_any (λ u. eqb u t) ts) (not (list_any (λ u. eqb u t) ts)) (either_way (list_any (λ u. eqb u t) ts))
one_in_view ts o (callout t d) p = of_object (eqb p o) (list_any (λ u. eqb u t) ts) (not (list_any (λ u. eqb u t) ts)) (either_way (list_any (λ u. eqb u t) ts))
one_in_view ts o (owed t) p = of_object (eqb p o) (list_any (λ u. eqb u t) ts) (not (list_any (λ u. eqb u t) ts)) (either_way (list_any (λ u. eqb u t) ts))
one_in_view ts o (parcel t k) p = of_object (eqb p o) true false refl
one_in_view ts o (slot b) p = of_object (eqb p o) true false refl
one_in_view ts o (in_mode t m) p = of_object (eqb p o) true false refl
one_in_view ts o (in_common t) p = of_object (eqb p o) true false refl

pub all_in_view : (ts : List ℕ) (o : ℕ) (es : List Reference)
    → degree o es ≡ weigh (held_with ts o) es + weigh (from_others ts o) es
all_in_view ts o [] = refl
all_in_view ts o (e ∷ es) = omega (arith, one_in_view ts o e.holder e.object, all_in_view ts o es)

-- ---- where objects were made

abbrev made_of : State → ℕ
made_of st = length st.parts.objects

-- an entry makes one object at most, and to what it makes a reference leads
record Makes (st next : State) : Type 0 where
  steady : IsSteady next
  size : made_of st ≤ made_of next
  new : (o : ℕ) → made_of st ≤ o → o < made_of next → 0 < degree o next.edges

pub flow_size : (st : State) (p : Parts) (fl : Flow) → FlowFits st p fl → length st.parts.objects ≤ length p.objects
flow_size st p (grows ins ms) fits = elim fits.sizes [ inl e ↦ omega (arith, e) | inr e ↦ omega (arith, e) ]
flow_size st p (shrinks r) fits = omega (arith, fits)

flow_new : (st : State) (p : Parts) (fl : Flow) → IsThere fl st.edges → FlowFits st p fl → (o : ℕ)
    → length st.parts.objects ≤ o → o < length p.objects → 0 < degree o (flowed fl st.edges)
flow_new st p (grows ins ms) can fits o least most = elim fits.sizes [
  | inl e ↦ absurd (omega (arith, e, least, most))
  | inr e ↦
      let n = length st.parts.objects in
      let is : n ≡ o = omega (arith, e, least, most) in
      subst (λ (q : ℕ). 0 < degree q (flowed (grows ins ms) st.edges)) is (omega (arith, degree-grown n ins ms st.edges can, fits.new e))
]
flow_new st p (shrinks r) can fits o least most = absurd (omega (arith, fits, least, most))

done_makes : (s : Script) (st : State) (e : Entry) → IsSteady st → IsStep e.action → IsLegalStep s st e
    → Makes st (after_action s e.thread st e.action)
done_makes s st e h is legal =
    let t = e.thread in
    let done = legal_done s st e h legal in
    let d = done.acts.demand in
    let step = step_of s t st (frames_at t st) d in
    subst (Makes st) (sym (step_after s st e is done)) (record {
      steady = step_steady t d st step h done.fits;
      size = flow_size st step.parts step.flow done.fits.flow;
      new = flow_new st step.parts step.flow done.fits.there done.fits.flow;
    })

entry_makes : (s : Script) (st : State) (t : ℕ) (a : Action) (x : Answer) → IsSteady st → ActionView a
    → IsLegalAs s st (record { thread = t; action = a; answer = x }) a → Makes st (after_action s t st a)
entry_makes s st t _ x h (is_tick n) legal = record { steady = ticked_steady n st h; size = omega arith; new = λ o least most. absurd (omega (arith, least, most)) }
entry_makes s st t _ x h is_stall legal = record { steady = h; size = omega arith; new = λ o least most. absurd (omega (arith, least, most)) }
entry_makes s st t a x h (is_step _ step) legal =
    let e : Entry = record { thread = t; action = a; answer = x } in
    done_makes s st e h step (step.legal s st e legal)

legal_makes : (s : Script) (st : State) (e : Entry) → IsSteady st → IsLegalEntry s st e
    → Makes st (after_action s e.thread st e.action)
legal_makes s st e h legal = entry_makes s st e.thread e.action e.answer h (action_view e.action) legal

size_stays : (s : Script) (st : State) (es : List Entry) → IsSteady st → IsLegalPart s st es
    → made_of st ≤ made_of (state_from s st es)
size_stays s st [] h legal = omega arith
size_stays s st (e ∷ es) h legal =
    let one = legal_makes s st e h legal.0 in
    omega (arith, one.size, size_stays s (after_action s e.thread st e.action) es one.steady legal.1)

changed_made : (s : Script) (st : State) (o : ℕ) (es : List Entry) → IsSteady st → IsLegalPart s st es
    → 0 < changes_from s st o es → o < made_of (state_from s st es)
changed_made s st o [] h legal some = absurd (omega arith)
changed_made s st o (e ∷ es) h legal some =
    let next = after_action s e.thread st e.action in
    let one = legal_makes s st e h legal.0 in
    elim (cases_lt 0 (degree o st.edges)) [
      | inl before ↦ let live = live_led st o h.balance before in omega (arith, live.1, size_stays s st (e ∷ es) h legal)
      | inr none ↦ elim (cases_lt 0 (degree o next.edges)) [
        | inl after ↦ let live = live_led next o one.steady.balance after in omega (arith, live.1, size_stays s next es one.steady legal.1)
        | inr nothing ↦ changed_made s next o es one.steady legal.1 (omega (arith, some, none, nothing))
      ]
    ]

none_unmade : (st : State) (o : ℕ) → IsSteady st → made_of st ≤ o → degree o st.edges ≡ 0
none_unmade st o h unmade = elim (cases_lt 0 (degree o st.edges)) [
  | inl some ↦ let live = live_led st o h.balance some in absurd (omega (arith, live.1, unmade))
  | inr none ↦ omega (arith, none)
]

made_changed : (s : Script) (st : State) (o : ℕ) (es : List Entry) → IsSteady st → IsLegalPart s st es → made_of st ≤ o
    → o < made_of (state_from s st es) → 0 < changes_from s st o es
made_changed s st o [] h legal unmade made = absurd (omega (arith, unmade, made))
made_changed s st o (e ∷ es) h legal unmade made =
    let next = after_action s e.thread st e.action in
    let one = legal_makes s st e h legal.0 in
    elim (cases_lt o (made_of next)) [
      | inl here ↦ omega (arith, none_unmade st o h unmade, one.new o unmade here)
      | inr later ↦ omega (arith, made_changed s next o es one.steady legal.1 (omega (arith, later)) made)
    ]

pub made_where_changed : (s : Script) (es : List Entry) (o : ℕ) → IsLegal s es
    → (ltb o (made_of (After s es)) ≡ true) ↔ (0 < changes s o es)
made_where_changed s es o legal =
    let part = part_of_legal s (start s) es legal in (
      λ made. made_changed s (start s) o es (start_steady s) part (omega arith) (ltb-true o (made_of (After s es)) made),
      λ some. is_less o (made_of (After s es)) (changed_made s (start s) o es (start_steady s) part some),
    )
  where
    is_less : (m n : ℕ) → m < n → ltb m n ≡ true
    is_less m n h = grind (arith, nat_tests)

-- ---- the times of the lead

no_times : (s : Script) (st : State) (e : Entry) (a : Action) → (e.thread ≡ lead → ⊥) → IsLegalAs s st e a
    → times_in a ≡ []
no_times s st e (actions.Tick time) apart legal = absurd (apart legal.0)
no_times s st e a apart legal = refl

times_from : (s : Script) (st : State) (es : List Entry) → IsLegalPart s st es → tick_times es ≡ tick_times (by_lead es)
times_from s st [] legal = refl
times_from s st (e ∷ es) legal = by (eqb_tells e.thread lead) (times_from s (after_action s e.thread st e.action) es legal.1)
  where
    by : ((eqb e.thread lead ≡ true) × (e.thread ≡ lead)) ⊎ ((eqb e.thread lead ≡ false) × (e.thread ≡ lead → ⊥))
        → tick_times es ≡ tick_times (by_lead es) → tick_times (e ∷ es) ≡ tick_times (by_lead (e ∷ es))
    by (inl q) rest = rw q.0 (ap (λ (ts : List ℕ). times_in e.action ++ ts) rest)
    by (inr q) rest = rw (q.0, no_times s st e e.action q.1 legal.0) rest

pub times_by_lead : (s : Script) (es : List Entry) → IsLegal s es → tick_times es ≡ tick_times (by_lead es)
times_by_lead s es legal = times_from s (start s) es (part_of_legal s (start s) es legal)

-- ---- nothing without threads

record NoThread (st : State) : Type 0 where
  edges : st.edges ≡ []
  stands : st.stands ≡ []
  flags : st.parts.flags ≡ []

none_at : {A : Type 0} (a : A) (n : ℕ) → at_or a n [] ≡ a
none_at a zero = refl
none_at a (suc n) = refl

nothing_demanded : (s : Script) (st : State) (t : ℕ) → NoThread st → demanded s st t ≡ None
nothing_demanded s st t h = ap (λ (ss : List Stand). demand s (facts_of st) t (stand_at t ss)) h.stands ∙ ap (demand s (facts_of st) t) (none_at blank t)

no_thread_after : (s : Script) (t : ℕ) (st : State) (a : Action) → NoThread st → NoThread (after_action s t st a)
no_thread_after s t st (actions.Tick n) h = record { edges = h.edges; stands = h.stands; flags = ap (map (tick_flags n)) h.flags }
no_thread_after s t st actions.Stall h = h
no_thread_after s t st a h = subst NoThread (sym (ap (acted s t st) (nothing_demanded s st t h))) h

no_thread_from : (s : Script) (st : State) (es : List Entry) → NoThread st → NoThread (state_from s st es)
no_thread_from s st [] h = h
no_thread_from s st (e ∷ es) h = no_thread_from s (after_action s e.thread st e.action) es (no_thread_after s e.thread st e.action h)

cannot_go : (st : State) (t : ℕ) → NoThread st → can_go st t ≡ false
cannot_go st t h = ap (λ (f : Flags). (f.is_started && not (stand_at t st.stands).is_done) && not (is_asleep f.sleep)) (ap (flags_at t) h.flags ∙ none_at (flags_of false) t)

pub empty_without_threads : (s : Script) (es : List Entry) → s.thread_count ≡ 0 → IsEmpty s es
empty_without_threads s es none =
    let begun : NoThread (start s) = record {
      edges = refl;
      stands = ap (λ (n : ℕ). map opening_stand (range_with_len 0 n)) none;
      flags = ap (λ (n : ℕ). map (λ t. flags_of (eqb t 0)) (range_with_len 0 n)) none;
    } in
    let h = no_thread_from s (start s) es begun in
    record {
      references = h.edges;
      next = λ t. ap (λ (b : Bool). cond b (action_if s (facts_of (After s es)) t (frames_at t (After s es)) (demanded s (After s es) t)) None) (cannot_go (After s es) t h);
      retains = λ t. ap (λ (b : Bool). cond b (ahead s (facts_of (After s es)) t (stand_at t (After s es).stands)) []) (cannot_go (After s es) t h);
    }
