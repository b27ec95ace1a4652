-- What marking one place does, and what following the references of one place does.
use Rattle.std.proofs.Common.{◌≡◌, ℕ, ◌+◌, ◌-◌, ◌<◌, ◌≤◌, ◌⊎◌, inl, inr, Bool, true, false, not, cond, List, [], ◌∷◌, ◌++◌, length, get_or, set, refl, sym, ap, ◌∙◌, subst, arith, length-set, get_or-set_same, get_or-set_other}
use Rattle.std.specs.Prelude.{Contains}
use Rattle.std.proofs.lemmas.Bool.{cases_eq, cases_lt}
use Rattle.std.proofs.lemmas.List.{length_push}
use Rattle.std.proofs.lemmas.List.Elements.{Contains-append_left, Contains-push, Contains-push_cases}
use Rattle.std.proofs.lemmas.List.Sums.{sum_by-set}
use Rattle.cf_graph.specs.Walks.{IsLatest, Marked, marks_left, Grows}

-- marks and stack before and after a place is marked
pub record Marks (q : ℕ) (old new : List Bool) (had has : List ℕ) : Type 0 where
  pub size : length new ≡ length old
  pub kept : (r : ℕ) → Marked old r → Marked new r
  pub now : Marked new q
  pub found : (r : ℕ) → Marked new r → Marked old r ⊎ (Contains has r × (q ≡ r))
  pub waiting : (r : ℕ) → Contains has r → Contains had r ⊎ Marked new r
  pub stacked : (r : ℕ) → Contains had r → Contains has r
  pub spent : marks_left new + length has ≡ marks_left old + length had

set-kept : (m : List Bool) (q r : ℕ) → q < length m → Marked m r → Marked (set m q true) r
set-kept m q r h marked = elim (cases_eq r q) [
  | inl e ↦ subst (λ (x : ℕ). Marked (set m q true) x) (sym e) (get_or-set_same m q true false h)
  | inr ne ↦ get_or-set_other m q r true false ne ∙ marked
]

marks_cases : (q : ℕ) (old new : List Bool) (had has : List ℕ) (b : Bool) → get_or old q false ≡ b → q < length old
    → new ≡ set old q true → has ≡ cond b had (had ++ q ∷ []) → Marks q old new had has
marks_cases q old new had has true was within e s =
    subst (λ (m : List Bool). Marks q old m had has) (sym e)
    (subst (λ (ss : List ℕ). Marks q old (set old q true) had ss) (sym s) (record {
      size = length-set old q true;
      kept = λ r h. set-kept old q r within h;
      now = get_or-set_same old q true false within;
      found = λ r h. elim (cases_eq r q) [
        | inl same ↦ inl (subst (λ (x : ℕ). Marked old x) (sym same) was)
        | inr ne ↦ inl (sym (get_or-set_other old q r true false ne) ∙ h)
      ];
      waiting = λ r h. inl h;
      stacked = λ r h. h;
      spent = omega (
        arith,
        sum_by-set (λ (x : Bool). cond (not x) 1 0) old q true false within,
        ap (λ (x : Bool). cond {A = ℕ} (not x) 1 0) was,
      );
    }))
marks_cases q old new had has false was within e s =
    subst (λ (m : List Bool). Marks q old m had has) (sym e)
    (subst (λ (ss : List ℕ). Marks q old (set old q true) had ss) (sym s) (record {
      size = length-set old q true;
      kept = λ r h. set-kept old q r within h;
      now = get_or-set_same old q true false within;
      found = λ r h. elim (cases_eq r q) [
        | inl same ↦ inr (subst (λ (x : ℕ). Contains (had ++ q ∷ []) x) (sym same) (Contains-push had q), sym same)
        | inr ne ↦ inl (sym (get_or-set_other old q r true false ne) ∙ h)
      ];
      waiting = λ r h. elim (Contains-push_cases had q r h) [
        | inl before ↦ inl before
        | inr same ↦ inr (subst (λ (x : ℕ). Marked (set old q true) x) same (get_or-set_same old q true false within))
      ];
      stacked = λ r h. Contains-append_left had (q ∷ []) r h;
      spent = omega (
        arith,
        length_push had q,
        sum_by-set (λ (x : Bool). cond (not x) 1 0) old q true false within,
        ap (λ (x : Bool). cond {A = ℕ} (not x) 1 0) was,
      );
    }))

pub marks_from : (q : ℕ) (old new : List Bool) (had has : List ℕ) → q < length old → new ≡ set old q true
    → has ≡ cond (get_or old q false) had (had ++ q ∷ []) → Marks q old new had has
marks_from q old new had has within e s = marks_cases q old new had has (get_or old q false) refl within e s

-- one more reference is followed
pub grows-more : (froms tos : List ℕ) (p k below q : ℕ) (old m new : List Bool) (had s has : List ℕ) → k ≤ length froms
    → get_or froms (k - 1) 0 ≡ p → 0 < k → IsLatest froms p (k - 1) below → get_or tos (k - 1) 0 ≡ q
    → Grows froms tos p k old m had s → Marks q m new s has → Grows froms tos p below old new had has
grows-more froms tos p k below q old m new had s has within here above l to g now = record {
  size = now.size ∙ g.size;
  kept = λ r h. now.kept r (g.kept r h);
  followed = λ j a b e. elim (cases_lt j (k - 1)) [
    | inl lt ↦ absurd (l.later j a lt e)
    | inr ge ↦ elim (cases_eq j (k - 1)) [
      | inl same ↦ subst (λ (x : ℕ). Marked new (get_or tos x 0)) (sym same)
          (subst (λ (x : ℕ). Marked new x) (sym to) now.now)
      | inr ne ↦ now.kept _ (g.followed j (omega arith) b e)
    ]
  ];
  found = λ r h. elim (now.found r h) [
    | inl before ↦ elim (g.found r before) [
      | inl had_it ↦ inl had_it
      | inr led ↦ inr (now.stacked r led.0, led.1)
    ]
    | inr led ↦ inr (led.0, record { at = k - 1; within = omega arith; from = here; to = to ∙ led.1 })
  ];
  waiting = λ r h. elim (now.waiting r h) [
    | inl before ↦ elim (g.waiting r before) [
      | inl had_it ↦ inl had_it
      | inr marked ↦ inr (now.kept r marked)
    ]
    | inr marked ↦ inr marked
  ];
  stacked = λ r h. now.stacked r (g.stacked r h);
  spent = now.spent ∙ g.spent;
}
