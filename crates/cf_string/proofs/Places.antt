-- Where a text stands in another.
use Rattle.std.proofs.Common.{◌≡◌, ℕ, ◌+◌, ◌-◌, ◌≤◌, Bool, true, List, length, take, drop, sym, ap, ◌∙◌, eqb, arith}
use Rattle.std.proofs.lemmas.List.{length-drop, take_all, take_rest}
use Rattle.std.proofs.lemmas.Slice.Eq.{bytes_eq-Decides}
use Rattle.std.specs.Bool.{Decides}
use Rattle.std.specs.Cmp.Lexicographic.{pointwise}
use Rattle.cf_string.specs.Units.{StandsAt}

-- the test of a slice from a place on
pub starts_stand : (units other : List ℕ) (i : ℕ) (result : Bool) → i + length other ≤ length units
    → result ≡ pointwise eqb other (take (length other) (take (length units - i) (drop i units)))
    → Decides result (StandsAt units other i)
starts_stand units other i result fits is =
    let said : result ≡ pointwise eqb other (take (length other) (drop i units)) =
    is ∙ ap (λ xs. pointwise eqb other (take (length other) xs)) (take_rest units i) in
    let same = bytes_eq-Decides other (take (length other) (drop i units)) in
    ((λ yes. (fits, sym (same.0 (sym said ∙ yes)))), (λ stands. said ∙ same.1 (sym stands.1)))

-- the test at the last place, where the rest is as long as the other text
pub ends_stand : (units other : List ℕ) (result : Bool) → (result ≡ true → length other ≤ length units)
    → result ≡ pointwise eqb other (drop (length units - length other) units)
    → Decides result (StandsAt units other (length units - length other))
ends_stand units other result bound is =
    let last = length units - length other in
    let rest = drop last units in
    let same = bytes_eq-Decides other rest in (
      (λ (yes : result ≡ true).
          let fits : length other ≤ length units = bound yes in
          let len : length rest ≤ length other = omega (arith, length-drop last units) in
          (omega arith, take_all (length other) rest len ∙ sym (same.0 (sym is ∙ yes)))),
      (λ (stands : StandsAt units other last).
          let fits : last + length other ≤ length units = stands.0 in
          let len : length rest ≤ length other = omega (arith, length-drop last units) in
          is ∙ same.1 (sym stands.1 ∙ take_all (length other) rest len)),
    )
