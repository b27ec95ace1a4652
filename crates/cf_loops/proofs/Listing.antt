-- Lists of references, one after another for each number below one.
use Rattle.std.proofs.Common.{◌≡◌, ℕ, zero, suc, ◌+◌, ◌<◌, List, [], ◌∷◌, ◌++◌, length, map, replicate, sym, ap, ◌∙◌, arith, inl, inr}
use Rattle.std.specs.Prelude.{flat_map}
use Rattle.std.specs.List.{range_with_len}
use Rattle.std.proofs.lemmas.Bool.Decides.{eqb_tells}
use Rattle.std.proofs.lemmas.Grind.{flat_map-append}
use Rattle.std.proofs.lemmas.List.{append-nil, map-append, replicate-append-replicate, length-append}
use Rattle.cf_graph.specs.Edges.{Reference, weigh}
use Rattle.cf_graph.proofs.Counts.{weigh-append}
use Rattle.cf_next.specs.Held.{below}
use Rattle.cf_next.proofs.HeldLaws.{below-none, below-suc}

range_last : (a n : ℕ) → range_with_len a (suc n) ≡ range_with_len a n ++ (a + n) ∷ []
range_last a zero = let e : a ≡ a + 0 = omega arith in ap (λ (x : ℕ). x ∷ []) e
range_last a (suc n) =
    let e : a + 1 + n ≡ a + suc n = omega arith in
    ap (λ (xs : List ℕ). a ∷ xs) (range_last (a + 1) n ∙ ap (λ (x : ℕ). range_with_len (a + 1) n ++ x ∷ []) e)

pub flat_below : {A : Type 0} (f : ℕ → List A) (n : ℕ) → flat_map f (range_with_len 0 n) ≡ below f n
flat_below f zero = sym (below-none f)
flat_below {A} f (suc n) =
    let e : 0 + n ≡ n = omega arith in
    ap (flat_map f) (range_last 0 n) ∙ flat_map-append f (range_with_len 0 n) ((0 + n) ∷ [])
    ∙ ap (λ (k : ℕ). flat_map f (range_with_len 0 n) ++ flat_map f (k ∷ [])) e
    ∙ ap (λ (xs : List A). flat_map f (range_with_len 0 n) ++ xs) (append-nil (f n))
    ∙ ap (λ (xs : List A). xs ++ f n) (flat_below f n) ∙ sym (below-suc f n)

module _ (g : Reference → ℕ) (f : ℕ → List Reference) where
  weigh_suc : (n : ℕ) → weigh g (below f (suc n)) ≡ weigh g (below f n) + weigh g (f n)
  weigh_suc n = ap (weigh g) (below-suc f n) ∙ weigh-append g (below f n) (f n)

  -- where none weighs anything
  pub weigh_none : (n : ℕ) → ((i : ℕ) → i < n → weigh g (f i) ≡ 0) → weigh g (below f n) ≡ 0
  weigh_none zero h = ap (weigh g) (below-none f)
  weigh_none (suc n) h = omega (arith, weigh_suc n, h n (omega arith), weigh_none n (λ i lt. h i (omega (arith, lt))))

  -- where one alone weighs something
  pub weigh_one : (n k : ℕ) → k < n → ((i : ℕ) → (i ≡ k → ⊥) → weigh g (f i) ≡ 0) → weigh g (below f n) ≡ weigh g (f k)
  weigh_one zero k lt others = absurd (omega arith)
  weigh_one (suc n) k lt others = elim (eqb_tells n k) [
    | inl e ↦
        let rest : weigh g (below f n) ≡ 0 = weigh_none n (λ i below. others i (λ q. absurd (omega (arith, q, below, e.1)))) in
        omega (arith, weigh_suc n, rest, ap (λ (i : ℕ). weigh g (f i)) e.1)
    | inr e ↦ omega (arith, weigh_suc n, others n e.1, weigh_one n k (smaller n k lt e.1) others)
  ]
    where
      smaller : (n k : ℕ) → k < suc n → (n ≡ k → ⊥) → k < n
      smaller n k lt apart = omega arith

-- lists of one object alone
pub map_below : {A : Type 0} (f : A → ℕ) (g : ℕ → List A) (i n : ℕ)
    → ((k : ℕ) → map f (g k) ≡ replicate (length (g k)) i) → map f (below g n) ≡ replicate (length (below g n)) i
map_below f g i zero h = ap (map f) (below-none g) ∙ ap (λ xs. replicate (length xs) i) (sym (below-none g))
map_below {A} f g i (suc n) h =
    ap (map f) (below-suc g n) ∙ map-append f (below g n) (g n)
    ∙ ap (λ (xs : List ℕ). xs ++ map f (g n)) (map_below f g i n h)
    ∙ ap (λ (xs : List ℕ). replicate (length (below g n)) i ++ xs) (h n)
    ∙ replicate-append-replicate (length (below g n)) (length (g n)) i
    ∙ ap (λ (k : ℕ). replicate k i) (sym (length-append (below g n) (g n)) ∙ ap length (sym (below-suc g n)))

-- lists that are as long
pub length_below : {A B : Type 0} (f : ℕ → List A) (g : ℕ → List B) (n : ℕ)
    → ((k : ℕ) → k < n → length (f k) ≡ length (g k)) → length (below f n) ≡ length (below g n)
length_below f g zero h = ap length (below-none f) ∙ sym (ap length (below-none g))
length_below f g (suc n) h =
    omega (
      arith,
      ap length (below-suc f n),
      ap length (below-suc g n),
      length-append (below f n) (f n),
      length-append (below g n) (g n),
      h n (omega arith),
      length_below f g n (λ k lt. h k (omega (arith, lt))),
    )

-- before the first of them
pub lists_none : {A : Type 0} (f : ℕ → List A) (start : List A) → start ≡ start ++ below f 0
lists_none {A} f start = sym (ap (λ (xs : List A). start ++ xs) (below-none f) ∙ append-nil start)
