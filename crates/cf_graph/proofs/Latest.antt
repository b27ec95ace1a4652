-- How the links between references of one place grow, reference by reference.
use Rattle.std.proofs.Common.{◌≡◌, ℕ, ◌+◌, ◌-◌, ◌<◌, ◌≢◌, inl, inr, List, [], ◌∷◌, ◌++◌, length, get_or, set, sym, ap, ◌∙◌, subst, arith, length-set, get_or-set_same, get_or-set_other}
use Rattle.std.proofs.lemmas.Bool.{cases_eq, cases_lt}
use Rattle.std.proofs.lemmas.List.{get_or_append_left, get_or_push, length_push}
use Rattle.cf_graph.specs.Walks.{IsLatest, IsLinked}

-- one more reference, from another place or from this one
latest-other : (froms : List ℕ) (p n k : ℕ) → get_or froms n 0 ≢ p → IsLatest froms p n k → IsLatest froms p (n + 1) k
latest-other froms p n k other l = record {
  within = omega (arith, l.within);
  here = l.here;
  later = λ j a b. elim (cases_lt j n) [
    | inl lt ↦ l.later j a lt
    | inr ge ↦ (let e : n ≡ j = omega arith in subst (λ (i : ℕ). get_or froms i 0 ≢ p) e other)
  ];
}

latest-same : (froms : List ℕ) (n : ℕ) → IsLatest froms (get_or froms n 0) (n + 1) (n + 1)
latest-same froms n = record {
  within = omega arith;
  here = λ h. (let e : n ≡ n + 1 - 1 = omega arith in ap (λ (i : ℕ). get_or froms i 0) (sym e));
  later = λ j a b. absurd (omega arith);
}

heads-more : (froms latest : List ℕ) (n p : ℕ) → p < length latest → get_or froms n 0 < length latest
    → IsLatest froms p n (get_or latest p 0)
    → IsLatest froms p (n + 1) (get_or (set latest (get_or froms n 0) (n + 1)) p 0)
heads-more froms latest n p within fits l = elim (cases_eq p (get_or froms n 0)) [
  | inl e ↦ (
      let at : get_or (set latest (get_or froms n 0) (n + 1)) (get_or froms n 0) 0 ≡ n + 1 =
      get_or-set_same latest (get_or froms n 0) (n + 1) 0 fits in
      subst (λ (q : ℕ). IsLatest froms q (n + 1) (get_or (set latest (get_or froms n 0) (n + 1)) q 0)) (sym e)
      (subst (λ (k : ℕ). IsLatest froms (get_or froms n 0) (n + 1) k) (sym at) (latest-same froms n)))
  | inr ne ↦ (
      let at : get_or (set latest (get_or froms n 0) (n + 1)) p 0 ≡ get_or latest p 0 =
      get_or-set_other latest (get_or froms n 0) p (n + 1) 0 ne in
      subst (λ (k : ℕ). IsLatest froms p (n + 1) k) (sym at) (latest-other froms p n _ (λ h. ne (sym h)) l))
]

links-more : (froms before : List ℕ) (n k i : ℕ) → length before ≡ n → IsLatest froms (get_or froms n 0) n k
    → ((j : ℕ) → j < n → IsLatest froms (get_or froms j 0) j (get_or before j 0)) → i < n + 1
    → IsLatest froms (get_or froms i 0) i (get_or (before ++ k ∷ []) i 0)
links-more froms before n k i size l links h = elim (cases_lt i n) [
  | inl lt ↦ (
      let at : get_or (before ++ k ∷ []) i 0 ≡ get_or before i 0 =
      get_or_append_left before (k ∷ []) 0 i (omega arith) in
      subst (λ (x : ℕ). IsLatest froms (get_or froms i 0) i x) (sym at) (links i lt))
  | inr ge ↦ (
      let e : n ≡ i = omega arith in
      let at : get_or (before ++ k ∷ []) n 0 ≡ k = get_or_push before k 0 n size in
      subst (λ (x : ℕ). IsLatest froms (get_or froms x 0) x (get_or (before ++ k ∷ []) x 0)) e
      (subst (λ (x : ℕ). IsLatest froms (get_or froms n 0) n x) (sym at) l))
]

-- one more reference is linked
pub linked-more : (froms latest before : List ℕ) (n p : ℕ) → p ≡ get_or froms n 0 → p < 66562
    → IsLinked froms n latest before → IsLinked froms (n + 1) (set latest p (n + 1)) (before ++ get_or latest p 0 ∷ [])
linked-more froms latest before n p e fits l =
    let places : length latest ≡ 66562 = l.places in
    let number : length before ≡ n = l.number in
    let within : get_or froms n 0 < 66562 = omega arith in
    subst (λ (q : ℕ). IsLinked froms (n + 1) (set latest q (n + 1)) (before ++ get_or latest q 0 ∷ [])) (sym e)
    (record {
      places = length-set latest (get_or froms n 0) (n + 1) ∙ places;
      number = omega (arith, length_push before (get_or latest (get_or froms n 0) 0));
      heads = λ q h. heads-more froms latest n q (omega arith) (omega arith) (l.heads q h);
      links = λ i h. links-more froms before n _ i number (l.heads (get_or froms n 0) within) l.links h;
    })
