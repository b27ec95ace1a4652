-- What a flow wins and loses by a weight, and that it can be done where no more is lost than is there.
use Rattle.std.proofs.Common.{◌≡◌, ℕ, Bool, true, false, List, [], ◌∷◌, map, eqb, refl, sym, ap, ◌∙◌, subst, arith, inl, inr}
use Rattle.std.proofs.lemmas.Bool.Decides.{eqb_tells}
use Rattle.cf_graph.specs.Holders.{Holder, variable, callout, owed, parcel, slot, in_mode, in_common}
use Rattle.cf_graph.specs.Edges.{Reference, same, weigh, one, counted, held_by, leading_to, degree}
use Rattle.cf_graph.specs.Operations.{moved, CanRun, won, lost}
use Rattle.cf_graph.specs.Flows.{Move, Flow, grows, shrinks, operations_of, flow_won, flow_lost, won_by_moves, lost_by_moves, IsThere, IsBalancedFlow, IsCounted}
use Rattle.cf_graph.proofs.Same.{same-equal, same-refl}
use Rattle.cf_graph.proofs.Counts.{weigh-run, can_run}

won-flow : (g : Reference → ℕ) (f : Flow) → won g (operations_of f) ≡ flow_won g f
won-flow g (grows [] []) = refl
won-flow g (grows [] (m ∷ ms)) = omega (arith, won-flow g (grows [] ms))
won-flow g (grows (e ∷ es) ms) = omega (arith, won-flow g (grows es ms))
won-flow g (shrinks r) = refl

lost-flow : (g : Reference → ℕ) (f : Flow) → lost g (operations_of f) ≡ flow_lost g f
lost-flow g (grows [] []) = refl
lost-flow g (grows [] (m ∷ ms)) = omega (arith, lost-flow g (grows [] ms))
lost-flow g (grows (e ∷ es) ms) = omega (arith, lost-flow g (grows es ms))
lost-flow g (shrinks r) = omega arith

-- where no more of each reference is taken than is there, a flow can be done
pub can_flow : (f : Flow) (es : List Reference) → IsThere f es → CanRun (operations_of f) es
can_flow f es h = can_run (operations_of f) es (λ r. rw (lost-flow (one r) f) (h r))

-- the one law of counts
pub weigh-flow : (g : Reference → ℕ) (f : Flow) (es : List Reference) → IsThere f es → IsBalancedFlow g f es
weigh-flow g f es h = omega (arith, weigh-run g (operations_of f) es (can_flow f es h), won-flow g f, lost-flow g f)

-- moves change no object's number of references
moves_lead : (o : ℕ) (ms : List Move) → won_by_moves (leading_to o) ms ≡ lost_by_moves (leading_to o) ms
moves_lead o [] = refl
moves_lead o (m ∷ ms) = omega (arith, moves_lead o ms)

-- references to an object, by a flow
pub degree-flow : (o : ℕ) (f : Flow) (es : List Reference) → IsThere f es → IsCounted o f es
degree-flow o (grows ins ms) es h = omega (arith, weigh-flow (leading_to o) (grows ins ms) es h, moves_lead o ms)
degree-flow o (shrinks r) es h = omega (arith, weigh-flow (leading_to o) (shrinks r) es h)

-- ---- references that are apart

one_if_apart : (r q : Reference) (b : Bool) → same r q ≡ b → (r ≡ q → ⊥) → one r q ≡ 0
one_if_apart r q true e h = absurd (h (same-equal r q e))
one_if_apart r q false e h = ap counted e

pub one_apart : (r q : Reference) → (r ≡ q → ⊥) → one r q ≡ 0
one_apart r q h = one_if_apart r q (same r q) refl h

pub holders_apart : (r q : Reference) → (r.holder ≡ q.holder → ⊥) → one r q ≡ 0
holders_apart r q h = one_apart r q (λ e. h (ap (λ (p : Reference). p.holder) e))

pub one_own : (k : Holder) (o x : ℕ) → one (held_by k o) (held_by k x) ≡ counted (eqb x o)
one_own k o x = elim (eqb_tells x o) [
  | inl e ↦ ap counted (subst (λ (n : ℕ). same (held_by k n) (held_by k x) ≡ true) e.1 (same-refl (held_by k x))) ∙ sym (ap counted e.0)
  | inr e ↦ one_apart (held_by k o) (held_by k x) (λ q. e.1 (sym (ap (λ (r : Reference). r.object) q))) ∙ sym (ap counted e.0)
]

pub own_weigh : (k : Holder) (o : ℕ) (xs : List ℕ)
    → weigh (one (held_by k o)) (map (held_by k) xs) ≡ degree o (map (held_by k) xs)
own_weigh k o [] = refl
own_weigh k o (x ∷ xs) = omega (arith, one_own k o x, own_weigh k o xs)

pub other_weigh : (r : Reference) (k : Holder) (xs : List ℕ) → (r.holder ≡ k → ⊥)
    → weigh (one r) (map (held_by k) xs) ≡ 0
other_weigh r k [] h = refl
other_weigh r k (x ∷ xs) h = omega (arith, holders_apart r (held_by k x) h, other_weigh r k xs h)

-- ---- flows that are a thread's own

-- the holder is no other thread
abbrev pub IsOwn : ℕ → Holder → Type 0
IsOwn t (variable u d v) = u ≡ t
IsOwn t (callout u d) = u ≡ t
IsOwn t (owed u) = u ≡ t
IsOwn t (parcel u k) = Unit {0}
IsOwn t (slot b) = Unit {0}
IsOwn t (in_mode u m) = Unit {0}
IsOwn t (in_common u) = Unit {0}

abbrev pub AllOwn : ℕ → List Reference → Type 0
AllOwn t [] = Unit {0}
AllOwn t (r ∷ rs) = IsOwn t r.holder × AllOwn t rs

abbrev pub MovesOwn : ℕ → List Move → Type 0
MovesOwn t [] = Unit {0}
MovesOwn t (m ∷ ms) = IsOwn t m.from.holder × IsOwn t m.to × MovesOwn t ms

abbrev pub FlowOwn : ℕ → Flow → Type 0
FlowOwn t (grows es ms) = AllOwn t es × MovesOwn t ms
FlowOwn t (shrinks r) = IsOwn t r.holder

-- another thread's holders have no part in it
abbrev pub IsOther : ℕ → Holder → Type 0
IsOther t h = IsOwn t h → ⊥

own_apart : (t : ℕ) (r : Reference) (q : Reference) → IsOther t r.holder → IsOwn t q.holder → one r q ≡ 0
own_apart t r q h own = holders_apart r q (λ e. h (subst (IsOwn t) (sym e) own))

all_apart : (t : ℕ) (r : Reference) (es : List Reference) → IsOther t r.holder → AllOwn t es → weigh (one r) es ≡ 0
all_apart t r [] h own = refl
all_apart t r (e ∷ es) h own = omega (arith, own_apart t r e h own.0, all_apart t r es h own.1)

moves_apart : (t : ℕ) (r : Reference) (ms : List Move) → IsOther t r.holder → MovesOwn t ms
    → (won_by_moves (one r) ms ≡ 0) × (lost_by_moves (one r) ms ≡ 0)
moves_apart t r [] h own = (refl, refl)
moves_apart t r (m ∷ ms) h own =
    let rest = moves_apart t r ms h own.2 in
    (omega (arith, own_apart t r (moved m.from m.to) h own.1, rest.0), omega (arith, own_apart t r m.from h own.0, rest.1))

pub flow_apart : (t : ℕ) (r : Reference) (f : Flow) → IsOther t r.holder → FlowOwn t f
    → (flow_won (one r) f ≡ 0) × (flow_lost (one r) f ≡ 0)
flow_apart t r (grows es ms) h own =
    let m = moves_apart t r ms h own.1 in
    (omega (arith, all_apart t r es h own.0, m.0), m.1)
flow_apart t r (shrinks q) h own = (refl, own_apart t r q h own)
