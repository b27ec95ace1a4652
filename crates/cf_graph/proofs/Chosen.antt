-- Marked objects are picked by rising number.
use Rattle.std.proofs.Common.{◌≡◌, ℕ, ◌+◌, ◌<◌, ◌↔◌, inl, inr, Bool, false, List, [], ◌∷◌, ◌++◌, length, get_or, sym, ◌∙◌, subst, arith}
use Rattle.std.specs.Prelude.{Contains}
use Rattle.std.specs.List.Sorted.{IsStrictlyIncreasing}
use Rattle.std.proofs.lemmas.Bool.{cases_eq, cases_lt, false≢true}
use Rattle.std.proofs.lemmas.List.{get_or_append_left, get_or_push, length_push, get_or_past}
use Rattle.std.proofs.lemmas.List.Elements.{Contains-get_or, Contains-append_left, Contains-push, Contains-push_cases}
use Rattle.cf_graph.specs.Walks.{Marked}

-- the marked objects with numbers below n, by rising number
pub record IsChosen (m : List Bool) (n : ℕ) (xs : List ℕ) : Type 0 where
  pub rising : IsStrictlyIncreasing xs
  pub among : (o : ℕ) → Contains xs o → (o < n) × Marked m (o + 2)
  pub all : (o : ℕ) → o < n → Marked m (o + 2) → Contains xs o

pub chosen-skip : (m : List Bool) (n : ℕ) (xs : List ℕ) → get_or m (n + 2) false ≡ false → IsChosen m n xs
    → IsChosen m (n + 1) xs
chosen-skip m n xs off c = record {
  rising = c.rising;
  among = λ o h. (let a : (o < n) × Marked m (o + 2) = c.among o h in (omega (arith, a.0), a.1));
  all = λ o h marked. elim (cases_eq o n) [
    | inl e ↦ absurd (false≢true (sym off ∙ subst (λ (x : ℕ). Marked m (x + 2)) e marked))
    | inr ne ↦ c.all o (omega arith) marked
  ];
}

rising-push : (xs : List ℕ) (n : ℕ) → IsStrictlyIncreasing xs → ((k : ℕ) → k < length xs → get_or xs k 0 < n)
    → IsStrictlyIncreasing (xs ++ n ∷ [])
rising-push xs n rising below k h =
    let size : length (xs ++ n ∷ []) ≡ length xs + 1 = length_push xs n in
    let within : k < length xs = omega arith in
    let here : get_or (xs ++ n ∷ []) k 0 ≡ get_or xs k 0 = get_or_append_left xs (n ∷ []) 0 k within in
    let low : get_or xs k 0 < n = below k within in
    elim (cases_lt (k + 1) (length xs)) [
      | inl lt ↦ (
          let there : get_or (xs ++ n ∷ []) (k + 1) 0 ≡ get_or xs (k + 1) 0 =
          get_or_append_left xs (n ∷ []) 0 (k + 1) lt in
          let up : get_or xs k 0 < get_or xs (k + 1) 0 = rising k lt in
          omega arith)
      | inr ge ↦ (
          let there : get_or (xs ++ n ∷ []) (k + 1) 0 ≡ n = get_or_push xs n 0 (k + 1) (omega arith) in
          omega arith)
    ]

pub chosen-push : (m : List Bool) (n : ℕ) (xs : List ℕ) → Marked m (n + 2) → IsChosen m n xs
    → IsChosen m (n + 1) (xs ++ n ∷ [])
chosen-push m n xs marked c = record {
  rising = rising-push xs n c.rising (λ k h. (c.among _ (Contains-get_or xs k 0 h)).0);
  among = λ o h. elim (Contains-push_cases xs n o h) [
    | inl before ↦ (let a : (o < n) × Marked m (o + 2) = c.among o before in (omega (arith, a.0), a.1))
    | inr e ↦ (omega arith, subst (λ (x : ℕ). Marked m (x + 2)) e marked)
  ];
  all = λ o h here. elim (cases_eq o n) [
    | inl e ↦ subst (λ (x : ℕ). Contains (xs ++ n ∷ []) x) (sym e) (Contains-push xs n)
    | inr ne ↦ Contains-append_left xs (n ∷ []) o (c.all o (omega arith) here)
  ];
}

-- no object has a higher number
pub chosen-all : (m : List Bool) (xs : List ℕ) (o : ℕ) → length m ≡ 66562 → IsChosen m 66560 xs
    → Contains xs o ↔ Marked m (o + 2)
chosen-all m xs o size c = (
  (λ h. (c.among o h).1),
  (λ marked. elim (cases_lt o 66560) [
    | inl lt ↦ c.all o lt marked
    | inr ge ↦ absurd (false≢true (sym (get_or_past m (o + 2) false (omega arith)) ∙ marked))
  ]),
)
