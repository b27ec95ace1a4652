-- The places of a loop that hold an item, or that do not, one after another.
use Rattle.std.proofs.Common.{◌≡◌, ℕ, suc, ◌+◌, ◌<◌, Bool, true, false, cond, not, List, [], ◌∷◌, ◌++◌, length, map, take, get_or, refl, sym, ap, ◌∙◌, arith}
use Rattle.std.specs.Prelude.{filter, ◌==◌}
use Rattle.std.proofs.lemmas.Bool.{eq-eqb, eqb-true}
use Rattle.std.proofs.lemmas.List.{length-map, take_more}
use Rattle.rl_base.specs.declared.places.Place.{Place}
use Rattle.rl_base.specs.declared.places.Place.TheVariants.{Common, Mode}
use Rattle.rl_base.specs.Modes.{places}
use Rattle.cf_graph.specs.Edges.{Reference, has, held_by}
use Rattle.cf_model.specs.Deals.{held_at, holder_at, holds_at}

-- the references of the places that pass
abbrev pub passing : ℕ → ℕ → (Place → Bool) → List Place → List Reference
passing t i test ps = held_at t i (filter test ps)

-- what a place adds
abbrev pub one_at : ℕ → ℕ → Place → Bool → List Reference
one_at t i p passes = cond passes (held_by (holder_at t p) i ∷ []) []

pub one-passes : (t i : ℕ) (test : Place → Bool) (p : Place) → one_at t i p (test p) ≡ passing t i test (p ∷ [])
one-passes t i test p = by (test p)
  where
    by : (b : Bool) → one_at t i p b ≡ held_at t i (cond b (p ∷ []) [])
    by true = refl
    by false = refl

more-passes : (t i : ℕ) (test : Place → Bool) (ps : List Place) (p : Place)
    → passing t i test (ps ++ p ∷ []) ≡ passing t i test ps ++ one_at t i p (test p)
more-passes t i test [] p = sym (one-passes t i test p)
more-passes t i test (q ∷ ps) p = by (test q) (more-passes t i test ps p)
  where
    by : (b : Bool) → passing t i test (ps ++ p ∷ []) ≡ passing t i test ps ++ one_at t i p (test p)
        → held_at t i (cond b (q ∷ filter test (ps ++ p ∷ [])) (filter test (ps ++ p ∷ [])))
        ≡ held_at t i (cond b (q ∷ filter test ps) (filter test ps)) ++ one_at t i p (test p)
    by true h = ap (λ rs. held_by (holder_at t q) i ∷ rs) h
    by false h = h

modes-more : (ms : List ℕ) (m : ℕ) → map Mode (ms ++ m ∷ []) ≡ map Mode ms ++ Mode m ∷ []
modes-more [] m = refl
modes-more (k ∷ ms) m = ap (λ ps. Mode k ∷ ps) (modes-more ms m)

-- a mode more
pub mode-passes : (t i : ℕ) (test : Place → Bool) (modes : List ℕ) (k : ℕ) (before now : List Reference)
    → k < length modes → before ≡ passing t i test (places (take k modes))
    → now ≡ before ++ one_at t i (Mode (get_or modes k 0)) (test (Mode (get_or modes k 0)))
    → now ≡ passing t i test (places (take (k + 1) modes))
mode-passes t i test modes k before now lt so put =
    let m = get_or modes k 0 in
    put ∙ ap (λ rs. rs ++ one_at t i (Mode m) (test (Mode m))) so
    ∙ sym (ap (λ ms. passing t i test (places ms)) (take_more modes k 0 lt)
    ∙ ap (λ ps. passing t i test (Common ∷ ps)) (modes-more (take k modes) m)
    ∙ more-passes t i test (places (take k modes)) (Mode m))

-- the loop of another thread holds an item
pub held-there : (t i : ℕ) (ps : List Place) (held : List Reference) → held ≡ held_at t i ps → length held ≡ length ps
held-there t i ps held is = ap length is ∙ length-map ps (λ p. held_by (holder_at t p) i)

-- whether a number is another one
pub apart : (a b : ℕ) → (a ≡ b → ⊥) → not (a == b) ≡ true
apart a b h = by (a == b) refl
  where
    by : (t : Bool) → (a == b) ≡ t → not t ≡ true
    by true e = absurd (h (eqb-true a b e))
    by false e = refl

pub alike : (a b : ℕ) → a ≡ b → not (a == b) ≡ false
alike a b h = ap not (eq-eqb a b h)
