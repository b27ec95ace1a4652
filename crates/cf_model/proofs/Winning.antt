-- References never win what does not go to them: a flow brings a weight no more than what enters and what moves bring,
-- whether or not it can be done.
use Rattle.std.proofs.Common.{◌≡◌, ℕ, ◌+◌, ◌≤◌, Bool, true, false, cond, List, [], ◌∷◌, ◌++◌, map, Option, Some, None, refl, sym, subst, arith}
use Rattle.cf_graph.specs.Holders.{Holder}
use Rattle.cf_graph.specs.Edges.{Reference, held_by, held_if, weigh, one, same}
use Rattle.cf_graph.specs.Operations.{moved, without}
use Rattle.cf_graph.specs.Flows.{Move, Flow, grows, shrinks, flowed, flow_won, won_by_moves}
use Rattle.cf_graph.proofs.Flows.{holders_apart}
use Rattle.cf_model.specs.Own.{moves_to}

-- ---- what a flow leaves weighs at most what was there and what it brings

pub without_le : (g : Reference → ℕ) (r : Reference) (es : List Reference) → weigh g (without r es) ≤ weigh g es
without_le g r [] = omega arith
without_le g r (e ∷ es) = by (same r e) (without_le g r es)
  where
    by : (b : Bool) → weigh g (without r es) ≤ weigh g es → weigh g (cond b es (e ∷ without r es)) ≤ weigh g (e ∷ es)
    by true h = omega arith
    by false h = omega (arith, h)

pub flowed_le : (g : Reference → ℕ) (f : Flow) (es : List Reference) → weigh g (flowed f es) ≤ weigh g es + flow_won g f
flowed_le g (grows [] []) es = omega arith
flowed_le g (grows [] (m ∷ ms)) es =
    omega (arith, flowed_le g (grows [] ms) (moved m.from m.to ∷ without m.from es), without_le g m.from es)
flowed_le g (grows (r ∷ rs) ms) es = omega (arith, flowed_le g (grows rs ms) (r ∷ es))
flowed_le g (shrinks r) es = omega (arith, without_le g r es)

-- ---- flows that bring references to some holders alone

abbrev pub AllHeld : (Holder → Type 0) → List Reference → Type 0
AllHeld P [] = Unit {0}
AllHeld P (r ∷ rs) = P r.holder × AllHeld P rs

abbrev pub AllGo : (Holder → Type 0) → List Move → Type 0
AllGo P [] = Unit {0}
AllGo P (m ∷ ms) = P m.to × AllGo P ms

abbrev pub FlowGoes : (Holder → Type 0) → Flow → Type 0
FlowGoes P (grows enters moves) = AllHeld P enters × AllGo P moves
FlowGoes P (shrinks r) = Unit {0}

module _ (P : Holder → Type 0) where
  pub held_append : (rs qs : List Reference) → AllHeld P rs → AllHeld P qs → AllHeld P (rs ++ qs)
  held_append [] qs a b = b
  held_append (r ∷ rs) qs a b = (a.0, held_append rs qs a.1 b)

  pub held_all : (h : Holder) (os : List ℕ) → P h → AllHeld P (map (held_by h) os)
  held_all h [] p = tt
  held_all h (o ∷ os) p = (p, held_all h os p)

  pub held_some : (h : Holder) (o : Option ℕ) → P h → AllHeld P (held_if h o)
  held_some h None p = tt
  held_some h (Some o) p = (p, tt)

  pub moves_go : (k : Holder) (rs : List Reference) → P k → AllGo P (moves_to k rs)
  moves_go k [] p = tt
  moves_go k (r ∷ rs) p = (p, moves_go k rs p)

  -- a weight of no reference of these holders
  module _ (g : Reference → ℕ) (free : (q : Reference) → P q.holder → g q ≡ 0) where
    enters_none : (rs : List Reference) → AllHeld P rs → weigh g rs ≡ 0
    enters_none [] h = refl
    enters_none (q ∷ rs) h = omega (arith, free q h.0, enters_none rs h.1)

    moves_none : (ms : List Move) → AllGo P ms → won_by_moves g ms ≡ 0
    moves_none [] h = refl
    moves_none (m ∷ ms) h = omega (arith, free (moved m.from m.to) h.0, moves_none ms h.1)

    pub flow_wins_none : (f : Flow) → FlowGoes P f → flow_won g f ≡ 0
    flow_wins_none (grows rs ms) h = omega (arith, enters_none rs h.0, moves_none ms h.1)
    flow_wins_none (shrinks q) h = refl

  -- a reference that no flow brings weighs no more after it
  pub flow_brings_none : (r : Reference) → (P r.holder → ⊥) → (f : Flow) (es : List Reference) → FlowGoes P f
      → weigh (one r) (flowed f es) ≤ weigh (one r) es
  flow_brings_none r not_here f es h =
      omega (arith, flowed_le (one r) f es, flow_wins_none (one r) (λ q p. holders_apart r q (λ e. not_here (subst P (sym e) p))) f h)
