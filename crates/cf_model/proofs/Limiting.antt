-- What a legal journal makes and finalises at most, and how many references it can leave to an object.
use Rattle.std.proofs.Common.{◌≡◌, ℕ, zero, suc, ◌+◌, ◌*◌, ◌<◌, ◌≤◌, Bool, true, false, List, [], ◌∷◌, length, Option, Some, None, eqb, ltb, refl, ap, subst, arith, inl, inr}
use Rattle.std.proofs.lemmas.Bool.{ltb-true}
use Rattle.std.proofs.lemmas.Bool.Decides.{eqb_tells, nat_tests}
use Rattle.cf_ids.specs.declared.limits.TheConstants.{MODES, OBJECTS}
use Rattle.cf_ids.specs.declared.answer.Answer.{Answer}
use Rattle.cf_syntax.specs.declared.script.Script.{Script}
use Rattle.cf_syntax.specs.Owned.{FitsByBlock, Owned}
use Rattle.cf_syntax.proofs.BlockLaws.{owned_fits}
use Rattle.cf_graph.specs.Edges.{counted, degree}
use Rattle.cf_graph.specs.Flows.{Flow, grows, shrinks, gains, cuts}
use Rattle.cf_next.specs.declared.action.Action.{Action}
use Rattle.cf_next.specs.Demands.{Demand}
use Rattle.cf_next.specs.Next.{action_in}
use Rattle.cf_model.specs.declared.entry.Entry.{Entry}
use Rattle.cf_model.specs.State.{State, start, times}
use Rattle.cf_model.specs.Known.{facts_of}
use Rattle.cf_model.specs.Steps.{step_of, frames_at, demanded, step_answer, acted}
use Rattle.cf_model.specs.Journals.{after_action, state_from, After, owners_of, IsLegalAs, IsLegal}
use Rattle.cf_model.specs.Flowing.{flow_if, flow_in}
use Rattle.cf_model.specs.Changes.{apart, changes_from}
use Rattle.cf_model.specs.Bounds.{FewOfLegal, FewReferences}
use Rattle.cf_model.proofs.Acting.{demand_fits}
use Rattle.cf_model.proofs.Adding.{entry_adds}
use Rattle.cf_model.proofs.Balance.{IsBalanced}
use Rattle.cf_model.proofs.ChangeLaws.{references_most}
use Rattle.cf_model.proofs.Entries.{ActionView, is_tick, is_stall, is_step, action_view}
use Rattle.cf_model.proofs.Finality.{IsLegalPart, part_of_legal, kept, legal_keeps}
use Rattle.cf_model.proofs.Gaining.{few_gained}
use Rattle.cf_model.proofs.Held.{entry_tells, flow_apart}
use Rattle.cf_model.proofs.Sound.{entry_sound, start_sound, uses_at_most}
use Rattle.cf_model.proofs.Steady.{IsSteady, start_steady}
use Rattle.cf_model.proofs.Using.{IsSound, demand_may}

-- ---- objects

entry_few : (s : Script) (st : State) (t : ℕ) (a : Action) (x : Answer) → ActionView a
    → IsLegalAs s st (record { thread = t; action = a; answer = x }) a → length st.parts.objects ≤ OBJECTS
    → length (after_action s t st a).parts.objects ≤ OBJECTS
entry_few s st t _ x (is_tick n) legal few = few
entry_few s st t _ x is_stall legal few = few
entry_few s st t a x (is_step _ step) legal few = elim (entry_adds s t st a).objects [
  | inl same ↦ omega (arith, same, few)
  | inr more ↦ omega (
    arith,
    more.1,
    (step.legal s st (record { thread = t; action = a; answer = x }) legal).room more.0,
  )
]

few_from : (s : Script) (st : State) (es : List Entry) → IsLegalPart s st es → length st.parts.objects ≤ OBJECTS
    → length (state_from s st es).parts.objects ≤ OBJECTS
few_from s st [] h few = few
few_from s st (e ∷ es) h few =
    few_from s (after_action s e.thread st e.action) es h.1
    (entry_few s st e.thread e.action e.answer (action_view e.action) h.0 few)

-- ---- what is finalised

once_at_most : (m : ℕ) (made led : Bool) → m + counted led ≡ counted made → m ≤ 1
once_at_most m true true h = omega (arith, h)
once_at_most m true false h = omega (arith, h)
once_at_most m false true h = omega (arith, h)
once_at_most m false false h = omega (arith, h)

only_made : (m : ℕ) (made led : Bool) → m + counted led ≡ counted made → 0 < m → made ≡ true
only_made m true led h some = refl
only_made m false true h some = absurd (omega (arith, h, some))
only_made m false false h some = absurd (omega (arith, h, some))

final_once : (st : State) → IsBalanced st → (o : ℕ) → times o st.parts.finalised ≤ 1
final_once st h o =
    once_at_most (times o st.parts.finalised) (ltb o (length st.parts.objects)) (ltb 0 (degree o st.edges)) (h o)

final_made : (st : State) → IsBalanced st → (o : ℕ) → 0 < times o st.parts.finalised → o < length st.parts.objects
final_made st h o some =
    let n = length st.parts.objects in
    ltb-true o n (only_made (times o st.parts.finalised) (ltb o n) (ltb 0 (degree o st.edges)) (h o) some)

-- numbers below a limit of which each stands once at most are no more than that
abbrev sum_below : ℕ → List ℕ → ℕ
sum_below zero xs = 0
sum_below (suc n) xs = times n xs + sum_below n xs

none_below : (n : ℕ) → sum_below n [] ≡ 0
none_below zero = refl
none_below (suc n) = omega (arith, none_below n)

one_below : (n x : ℕ) (xs : List ℕ) → n ≤ x → sum_below n (x ∷ xs) ≡ sum_below n xs
one_below zero x xs h = refl
one_below (suc n) x xs h =
    let other : counted (eqb x n) ≡ 0 = apart_from n x h in
    omega (arith, other, one_below n x xs (omega (arith, h)))
  where
    apart_from : (n x : ℕ) → suc n ≤ x → counted (eqb x n) ≡ 0
    apart_from n x h = grind (arith, nat_tests)

more_below : (n x : ℕ) (xs : List ℕ) → x < n → sum_below n (x ∷ xs) ≡ suc (sum_below n xs)
more_below zero x xs h = absurd (omega (arith, h))
more_below (suc n) x xs h = elim (eqb_tells x n) [
  | inl e ↦
      let here : counted (eqb x n) ≡ 1 = ap counted e.0 in
      omega (arith, here, one_below n x xs (omega (arith, e.1)))
  | inr e ↦
      let other : counted (eqb x n) ≡ 0 = ap counted e.0 in
      omega (arith, other, more_below n x xs (below n x h e.1))
]
  where
    below : (n x : ℕ) → x < suc n → (x ≡ n → ⊥) → x < n
    below n x h e = grind (arith, nat_tests)

length_below : (n : ℕ) (xs : List ℕ) → ((o : ℕ) → 0 < times o xs → o < n) → length xs ≡ sum_below n xs
length_below n [] h = omega (arith, none_below n)
length_below n (x ∷ xs) h =
    let own : counted (eqb x x) ≡ 1 = itself x in
    omega (
      arith,
      more_below n x xs (h x (omega (arith, own))),
      length_below n xs (λ o some. h o (omega (arith, some))),
    )
  where
    itself : (x : ℕ) → counted (eqb x x) ≡ 1
    itself x = grind (arith, nat_tests)

sum_most : (n : ℕ) (xs : List ℕ) → ((o : ℕ) → times o xs ≤ 1) → sum_below n xs ≤ n
sum_most zero xs h = omega arith
sum_most (suc n) xs h = omega (arith, h n, sum_most n xs h)

pub few_of_legal : (s : Script) (es : List Entry) → IsLegal s es → FewOfLegal s es
few_of_legal s es legal =
    let st = After s es in
    let balance = (kept s es legal).steady.balance in
    record {
      objects = few_from s (start s) es (part_of_legal s (start s) es legal) (omega arith);
      once = final_once st balance;
      made = final_made st balance;
      finalised =
          omega (
            arith,
            length_below (length st.parts.objects) st.parts.finalised (final_made st balance),
            sum_most (length st.parts.objects) st.parts.finalised (final_once st balance),
          );
    }

-- ---- references

one_most : (b : Bool) → counted b ≤ 1
one_most true = omega arith
one_most false = omega arith

flow_most : (o : ℕ) (f : Flow) → gains o f ≤ 1025 → gains o f + cuts o f ≤ 1025
flow_most o (grows ins ms) h = omega (arith, h)
flow_most o (shrinks r) h = omega (arith, one_most (eqb r.object o))

changes_most : (s : Script) (st : State) (o : ℕ) (es : List Entry) → length s.modes ≤ MODES → IsSteady st
    → IsLegalPart s st es
    → changes_from s st o es ≤ 1025 * length es
changes_most s st o [] modes h legal = omega arith
changes_most s st o (e ∷ es) modes h legal =
    let next = after_action s e.thread st e.action in
    let flow = flow_in s e.thread st e.action in
    let tells = entry_tells s st e.thread e.action e.answer h (action_view e.action) legal.0 in
    let one : apart (degree o st.edges) (degree o next.edges) ≤ 1025 = omega (
      arith,
      tells.changed o,
      flow_most o flow (few_gained s st e.thread e.action o modes),
    ) in
    omega (arith, one, changes_most s next o es modes (legal_keeps s st e h legal.0).steady legal.1)

-- the same of every list of entries of an owned script
module _ (c : Script) (own : FitsByBlock c) (modes : length c.modes ≤ MODES) where
  acted_most : (t : ℕ) (st : State) (d : Option Demand) (o : ℕ) → IsSound c st → demanded c st t ≡ d
      → gains o (flow_if c t st d) ≤ 1025 → apart (degree o st.edges) (degree o (acted c t st d).edges) ≤ 1025
  acted_most t st None o h e few = omega arith
  acted_most t st (Some d) o h e few =
      let step = step_of c t st (frames_at t st) d in
      let a = action_in c (facts_of st) t (frames_at t st) d in
      let may = uses_at_most st t (owners_of a) a (step_answer step st) (demand_may c t st h own d e) in
      let fits = demand_fits c t st d h.steady e may in
      omega (arith, flow_apart o step.flow st.edges fits.there, flow_most o step.flow few)

  entry_most : (t : ℕ) (st : State) (a : Action) (o : ℕ) → IsSound c st
      → apart (degree o st.edges) (degree o (after_action c t st a).edges) ≤ 1025
  entry_most t st a o h = by a (action_view a)
    where
      by : (a : Action) → ActionView a → apart (degree o st.edges) (degree o (after_action c t st a).edges) ≤ 1025
      by _ (is_tick n) = omega arith
      by _ is_stall = omega arith
      by a (is_step _ step) =
          let few = few_gained c st t a o modes in
          rw (step.after c t st)
          (acted_most t st (demanded c st t) o h refl (subst (λ (f : Flow). gains o f ≤ 1025) (step.flow c t st) few))

  owned_most : (st : State) (o : ℕ) (es : List Entry) → IsSound c st → changes_from c st o es ≤ 1025 * length es
  owned_most st o [] h = omega arith
  owned_most st o (e ∷ es) h =
      let next = after_action c e.thread st e.action in
      omega (
        arith,
        entry_most e.thread st e.action o h,
        owned_most next o es (entry_sound c e.thread st e.action own h),
      )

pub few_references : (s : Script) (es : List Entry) (o : ℕ) → IsLegal s es → FewReferences s es o
few_references s es o legal =
    let most = λ (modes : length s.modes ≤ MODES). changes_most s (start s) o es modes (start_steady s)
    (part_of_legal s (start s) es legal) in
    record { moves = most; references = λ modes. omega (arith, references_most s es o, most modes) }

pub few_of_owned : (s : Script) (es : List Entry) (o : ℕ) → Owned s → FewReferences s es o
few_of_owned s es o own =
    let most = λ (modes : length s.modes ≤ MODES). owned_most s (owned_fits s own) modes (start s) o es
    (start_sound s) in
    record { moves = most; references = λ modes. omega (arith, references_most s es o, most modes) }
