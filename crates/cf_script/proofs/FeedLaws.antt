-- The first byte that passes a test, as a search finds it.
use Rattle.std.proofs.Common.{◌≡◌, ℕ, ◌<◌, Bool, true, false, List, length, Option, Some, None, inl, inr, refl, arith, ltb}
use Rattle.std.specs.Prelude.{position}
use Rattle.std.specs.List.{position_or_len}
use Rattle.std.proofs.lemmas.Bool.{cases_Bool, ltb-true, ltb-false, lt-ltb}
use Rattle.std.proofs.lemmas.List.Sums.{fails_before_first, passes_at_first}
use Rattle.memchr.specs.Find.{IsFirstByte}

not_both : (t : Bool) → t ≡ true → t ≡ false → ⊥
not_both t e f = cc

pub first_is_position : (test : ℕ → Bool) (bytes : List ℕ) (found : Option ℕ) → IsFirstByte test bytes found
    → found ≡ position test bytes
first_is_position test bytes None h =
    let n = position_or_len test bytes in
    elim (cases_Bool (ltb n (length bytes))) [
      | inl t ↦
          let lt = ltb-true n (length bytes) t in
          absurd (h n (omega arith) lt (passes_at_first test bytes 0 lt))
      | inr f ↦ rw f refl
    ]
first_is_position test bytes (Some k) h =
    let n = position_or_len test bytes in
    let within : k < length bytes = h.0.high in
    elim (cases_Bool (ltb n k)) [
      | inl t ↦
          let lt = ltb-true n k t in
          absurd (h.0.before n (omega arith) lt (passes_at_first test bytes 0 (omega (arith, lt, within))))
      | inr f ↦ elim (cases_Bool (ltb k n)) [
        | inl t ↦ absurd (not_both _ h.1 (fails_before_first test bytes k 0 (ltb-true k n t)))
        | inr g ↦
            let same : n ≡ k = omega (arith, ltb-false n k f, ltb-false k n g) in
            rw (same, lt-ltb k (length bytes) within) refl
      ]
    ]
