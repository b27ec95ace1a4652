-- The variables after `uses`, one after another.
use Rattle.std.proofs.Common.{◌≡◌, ℕ, ◌+◌, ◌≤◌, ◌⊎◌, inl, inr, List, [], ◌∷◌, ◌++◌, length, drop, refl, arith, leb, append_assoc, append-nil}
use Rattle.std.specs.Prelude.{min}
use Rattle.std.proofs.lemmas.Bool.{cases_Bool, leb-true, leb-false}
use Rattle.std.proofs.lemmas.List.{drop_all}
use Rattle.cf_syntax.specs.declared.script.Given.{Given}
use Rattle.cf_syntax.specs.Text.{place_of, givens_of}
use Rattle.cf_script.specs.Views.{lent}
use denote.Ref.{Bor}

abbrev pub given : List (List ℕ) → List ℕ → ℕ → Given
given setup word own = record { setup = place_of setup word; own = own }

-- one variable more
pub given_next : (setup : List (List ℕ)) (ws : List (Bor (List ℕ))) (ns : List ℕ) (i : ℕ) (so_far : List Given)
    (w : Bor (List ℕ)) (n : ℕ)
    → drop i ws ≡ w ∷ drop (i + 1) ws → drop i ns ≡ n ∷ drop (i + 1) ns
    → (so_far ++ given setup w.now n ∷ []) ++ givens_of setup (lent (drop (i + 1) ws)) (drop (i + 1) ns)
    ≡ so_far ++ givens_of setup (lent (drop i ws)) (drop i ns)
given_next setup ws ns i so_far w n e f =
    rw (e, f) (append_assoc so_far (given setup w.now n ∷ []) (givens_of setup (lent (drop (i + 1) ws)) (drop (i + 1) ns)))

none_given : (setup : List (List ℕ)) (ws : List (List ℕ)) → givens_of setup ws [] ≡ []
none_given setup [] = refl
none_given setup (w ∷ ws) = refl

-- none is left
pub given_last : (setup : List (List ℕ)) (ws : List (Bor (List ℕ))) (ns : List ℕ) (i : ℕ) (so_far : List Given)
    → (length ws ≤ i) ⊎ (length ns ≤ i)
    → so_far ++ givens_of setup (lent (drop i ws)) (drop i ns) ≡ so_far
given_last setup ws ns i so_far (inl le) = rw (drop_all i ws le) (append-nil so_far)
given_last setup ws ns i so_far (inr le) = rw (drop_all i ns le, none_given setup (lent (drop i ws))) (append-nil so_far)

pub either_within : (a b i : ℕ) → min a b ≤ i → (a ≤ i) ⊎ (b ≤ i)
either_within a b i h = elim (cases_Bool (leb a b)) [
  | inl t ↦ inl (omega (arith, h, leb-true a b t))
  | inr f ↦ inr (omega (arith, h, leb-false a b f))
]
