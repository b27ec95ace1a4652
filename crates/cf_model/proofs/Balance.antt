-- The balance of each object: its finals, and one more if a reference leads to it, are one if it was made, and else
-- nothing. A flow keeps it where what enters leads to objects that are live, or to the new one.
use Rattle.std.proofs.Common.{◌≡◌, ℕ, ◌+◌, ◌<◌, ◌≤◌, ◌⊎◌, Bool, true, false, cond, List, [], ◌∷◌, ◌++◌, length, Some, eqb, ltb, refl, ap, subst, arith, inl, inr, ◌==◌}
use Rattle.std.proofs.lemmas.Bool.Decides.{nat_tests, eqb_tells}
use Rattle.std.proofs.lemmas.Bool.{eqb-true, eq-eqb, cases_lt, and_from}
use Rattle.std.specs.Prelude.{nat_lt}
use Rattle.cf_contents.specs.Contents.{times}
use Rattle.cf_graph.proofs.Counts.{weigh-le}
use Rattle.cf_graph.proofs.Flows.{weigh-flow}
use Rattle.cf_graph.proofs.Same.{same-equal, same-refl}
use Rattle.cf_graph.specs.Edges.{Reference, counted, degree, leading_to, one, same, weigh}
use Rattle.cf_graph.specs.Flows.{Flow, IsThere, Move, cut_of, grows, lost_by_moves, operations_of, shrinks, won_by_moves}
use Rattle.cf_graph.specs.Operations.{run}
use Rattle.cf_model.specs.State.{Parts, State, is_live}
use Rattle.cf_model.specs.Steps.{Step, finals_of, state_after}
use Rattle.cf_next.specs.Demands.{Demand}

abbrev pub Balances : List ℕ → List Reference → ℕ → ℕ → Type 0
Balances finalised es made o = times o finalised + counted (nat_lt 0 (degree o es)) ≡ counted (nat_lt o made)

abbrev pub IsBalanced : State → Type 0
IsBalanced st = (o : ℕ) → Balances st.parts.finalised st.edges (length st.parts.objects) o

one_if : (n : ℕ) → 0 < n → counted (nat_lt 0 n) ≡ 1
one_if n h = grind (arith, nat_tests)

none_if : (n : ℕ) → n ≡ 0 → counted (nat_lt 0 n) ≡ 0
none_if n h = grind (arith, nat_tests)

made_one : (o made : ℕ) → o < made → counted (nat_lt o made) ≡ 1
made_one o made h = grind (arith, nat_tests)

not_made : (o made : ℕ) → made ≤ o → counted (nat_lt o made) ≡ 0
not_made o made h = grind (arith, nat_tests)

made_more : (o made : ℕ) → (o ≡ made → ⊥) → counted (nat_lt o (made + 1)) ≡ counted (nat_lt o made)
made_more o made h = grind (arith, nat_tests)

counted_no : (m n : ℕ) → (m ≡ n → ⊥) → counted (eqb m n) ≡ 0
counted_no m n h = grind (arith, nat_tests)

-- an object is live, as numbers: every object to which a reference leads
abbrev pub IsLive : State → ℕ → Type 0
IsLive st o = (times o st.parts.finalised ≡ 0) × (o < length st.parts.objects)

live_numbers : (o made m : ℕ) → m + 1 ≡ counted (ltb o made) → (m ≡ 0) × (o < made)
live_numbers o made m h = (most (ltb o made) m h, grind (arith, nat_tests))
  where
    most : (b : Bool) (m : ℕ) → m + 1 ≡ counted b → m ≡ 0
    most true m h = omega arith
    most false m h = omega arith

pub live_led : (st : State) (o : ℕ) → IsBalanced st → 0 < degree o st.edges → IsLive st o
live_led st o b some =
    live_numbers o (length st.parts.objects) (times o st.parts.finalised) (omega (arith, b o, one_if (degree o st.edges) some))

one_leads : (r e : Reference) (b : Bool) → same r e ≡ b → counted b ≤ leading_to r.object e
one_leads r e true t = omega (arith, ap (λ (x : Reference). leading_to r.object x) (same-equal r e t), ap counted (eq-eqb r.object r.object refl))
one_leads r e false t = omega arith

pub live_there : (st : State) (r : Reference) → IsBalanced st → 0 < weigh (one r) st.edges → IsLive st r.object
live_there st r b here =
    live_led st r.object b (omega (arith, here, weigh-le (one r) (leading_to r.object) st.edges (λ e. one_leads r e (same r e) refl)))

pub live_test : (st : State) (o : ℕ) → IsLive st o → is_live st.parts o ≡ true
live_test st o h = and_from (ltb o (length st.parts.objects)) (eqb (times o st.parts.finalised) 0) (grind (arith, nat_tests)) (eq-eqb (times o st.parts.finalised) 0 h.0)

-- ---- flows

moved_same : (o : ℕ) (ms : List Move) → won_by_moves (leading_to o) ms ≡ lost_by_moves (leading_to o) ms
moved_same o [] = refl
moved_same o (m ∷ ms) = omega (arith, moved_same o ms)

pub degree-grown : (o : ℕ) (ins : List Reference) (ms : List Move) (es : List Reference) → IsThere (grows ins ms) es
    → degree o (run (operations_of (grows ins ms)) es) ≡ degree o es + degree o ins
degree-grown o ins ms es can = omega (arith, weigh-flow (leading_to o) (grows ins ms) es can, moved_same o ms)

pub degree-shrunk : (o : ℕ) (r : Reference) (es : List Reference) → IsThere (shrinks r) es
    → degree o (run (operations_of (shrinks r)) es) + counted (eqb r.object o) ≡ degree o es
degree-shrunk o r es can = omega (arith, weigh-flow (leading_to o) (shrinks r) es can)

-- what enters leads to live objects, or to the new one, to which it does lead
pub record Adds (finalised : List ℕ) (made size : ℕ) (ins : List Reference) : Type 0 where
  pub live : (o : ℕ) → 0 < degree o ins → ((times o finalised ≡ 0) × (o < made)) ⊎ ((o ≡ made) × (size ≡ made + 1))
  pub new : size ≡ made + 1 → 0 < degree made ins
  pub sizes : (size ≡ made) ⊎ (size ≡ made + 1)

module _ (finalised : List ℕ) (es : List Reference) (made size : ℕ) (ins : List Reference) (ms : List Move) (can : IsThere (grows ins ms) es) (adds : Adds finalised made size ins) (h : (o : ℕ) → Balances finalised es made o) where
  abbrev after : List Reference
  after = run (operations_of (grows ins ms)) es

  some_added : (o : ℕ) → 0 < degree o ins → Balances finalised after size o
  some_added o some =
      let there = one_if (degree o after) (omega (arith, some, degree-grown o ins ms es can)) in
      elim (adds.live o some) [
        | inl live ↦
            let below : o < size = elim adds.sizes [ inl s ↦ omega (arith, live.1, s) | inr s ↦ omega (arith, live.1, s) ] in
            omega (arith, there, live.0, made_one o size below)
        | inr fresh ↦ omega (arith, there, h o, not_made o made (omega (arith, fresh.0)), made_one o size (omega (arith, fresh.0, fresh.1)))
      ]

  none_added : (o : ℕ) → degree o ins ≡ 0 → Balances finalised after size o
  none_added o none =
      let kept : degree o after ≡ degree o es = omega (arith, none, degree-grown o ins ms es can) in
      elim adds.sizes [
        | inl same ↦ rw (kept, same) (h o)
        | inr more ↦
            let other : o ≡ made → ⊥ = λ e. omega (arith, adds.new more, none, ap (λ (n : ℕ). degree n ins) e) in
            rw (kept, more, made_more o made other) (h o)
      ]

  pub adds_balance : (o : ℕ) → Balances finalised after size o
  adds_balance o = elim (cases_lt 0 (degree o ins)) [ inl some ↦ some_added o some | inr none ↦ none_added o (omega (arith, none)) ]

cuts_last : (o : ℕ) (finalised : List ℕ) (left : List Reference) (made : ℕ) (b : Bool) → (degree o left == 0) ≡ b
    → times o finalised ≡ 0 → o < made → Balances (cond b (o ∷ []) [] ++ finalised) left made o
cuts_last o finalised left made true e live is =
    let none = none_if (degree o left) (eqb-true (degree o left) 0 e) in
    omega (arith, none, live, made_one o made is, ap counted (eq-eqb o o refl))
cuts_last o finalised left made false e live is =
    let some = one_if (degree o left) (grind (arith, nat_tests)) in
    omega (arith, some, live, made_one o made is)

times_other : (o q : ℕ) (b : Bool) (finalised : List ℕ) → (o ≡ q → ⊥)
    → times q (cond b (o ∷ []) [] ++ finalised) ≡ times q finalised
times_other o q true finalised h = omega (arith, counted_no o q h)
times_other o q false finalised h = refl

cut_balance : (r : Reference) (finalised : List ℕ) (es : List Reference) (made q : ℕ) → IsThere (shrinks r) es
    → times r.object finalised ≡ 0 → r.object < made → Balances finalised es made q
    → Balances (finals_of (Some r.object) (run (operations_of (shrinks r)) es) ++ finalised) (run (operations_of (shrinks r)) es) made q
cut_balance r finalised es made q can live is h =
    let o = r.object in
    let left = run (operations_of (shrinks r)) es in
    elim (eqb_tells o q) [
      | inl same ↦ subst (λ (p : ℕ). Balances (finals_of (Some o) left ++ finalised) left made p) same.1 (cuts_last o finalised left made (degree o left == 0) refl live is)
      | inr other ↦
          let kept : degree q left ≡ degree q es = omega (arith, degree-shrunk q r es can, counted_no o q other.1) in
          rw (times_other o q (degree o left == 0) finalised other.1, kept) h
    ]

-- what a step has to do, by its flow
abbrev pub FlowFits : State → Parts → Flow → Type 0
FlowFits st p (grows ins ms) = Adds st.parts.finalised (length st.parts.objects) (length p.objects) ins
FlowFits st p (shrinks r) = (length p.objects ≡ length st.parts.objects)

flow_balance : (st : State) (p : Parts) (fl : Flow) → p.finalised ≡ st.parts.finalised → IsThere fl st.edges
    → FlowFits st p fl → IsBalanced st → (o : ℕ)
    → Balances (finals_of (cut_of fl) (run (operations_of fl) st.edges) ++ p.finalised) (run (operations_of fl) st.edges) (length p.objects) o
flow_balance st p (grows ins ms) same can fits h o = rw same (adds_balance st.parts.finalised st.edges (length st.parts.objects) (length p.objects) ins ms can fits h o)
flow_balance st p (shrinks r) same can fits h o =
    let here : 0 < weigh (one r) st.edges = omega (arith, can r, ap counted (same-refl r)) in
    let live = live_there st r h here in
    rw (same, fits) (cut_balance r st.parts.finalised st.edges (length st.parts.objects) o can live.0 live.1 (h o))

pub step_balance : (t : ℕ) (d : Demand) (st : State) (step : Step) → step.parts.finalised ≡ st.parts.finalised
    → IsThere step.flow st.edges → FlowFits st step.parts step.flow → IsBalanced st
    → IsBalanced (state_after t d step st)
step_balance t d st step same can fits h = flow_balance st step.parts step.flow same can fits h
