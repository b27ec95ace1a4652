-- What `from_utf8` says of the test.
use Rattle.std.proofs.Common.{◌≡◌, ℕ, ◌+◌, ◌-◌, ◌<◌, Bool, true, false, cond, eqb, ltb, List, [], ◌∷◌, length, take, drop, get_or, Some, None, inl, inr, refl, sym, subst, arith}
use Rattle.std.specs.Prelude.{IsTrue, position}
use Rattle.std.specs.List.{position_or_len}
use Rattle.std.specs.Str.{IsUtf8, is_utf8}
use Rattle.std.proofs.lemmas.Bool.{cases_Bool, eqb-true, ltb-true}
use Rattle.std.proofs.lemmas.Str.{IsUtf8-from_is_utf8, is_utf8-from_IsUtf8, IsUtf8-nil, IsUtf8-take, IsUtf8-drop, IsCharBoundary-before_ascii, IsCharBoundary-after_ascii}
use Rattle.std.proofs.lemmas.List.Sums.{passes_at_first}
use Rattle.cf_syntax.specs.Lines.{without_return}

pub is_some_utf8 : (bs : List ℕ) → IsUtf8 bs → is_utf8 bs ≡ true
is_some_utf8 bs fits = is_utf8-from_IsUtf8 bs fits

pub is_no_utf8 : (bs : List ℕ) → ¬ (IsUtf8 bs) → is_utf8 bs ≡ false
is_no_utf8 bs not_so = elim (cases_Bool (is_utf8 bs)) [ inl t ↦ absurd (not_so (IsUtf8-from_is_utf8 bs t)) | inr f ↦ f ]

pub ruleset utf8_answers = (is_some_utf8, is_no_utf8)

pub known_utf8 : (bs : List ℕ) → IsUtf8 bs → true ≡ is_utf8 bs
known_utf8 bs fits = sym (is_some_utf8 bs fits)

pub where_true : (t : Bool) (bs : List ℕ) → t ≡ is_utf8 bs → IsTrue t → IsUtf8 bs
where_true true bs e h = IsUtf8-from_is_utf8 bs (sym e)
where_true false bs e h = absurd cc

-- ---- the lines of a text that is UTF-8

-- the first LF stands where one is found
found_at : (n m i : ℕ) → cond (ltb n m) (Some n) None ≡ Some i → (n < m) × (n ≡ i)
found_at n m i e = tests (ltb n m) refl e
  where
    tests : (t : Bool) → ltb n m ≡ t → cond t (Some n) None ≡ Some i → (n < m) × (n ≡ i)
    tests true at e = (ltb-true n m at, cc)
    tests false at e = absurd cc

at_feed : (bs : List ℕ) (i : ℕ) → position (λ b. eqb b 10) bs ≡ Some i → (i < length bs) × (get_or bs i 0 < 128)
at_feed bs i e =
    let n = position_or_len (λ b. eqb b 10) bs in
    let at = found_at n (length bs) i e in
    let feed : get_or bs n 0 ≡ 10 = eqb-true (get_or bs n 0) 10 (passes_at_first (λ b. eqb b 10) bs 0 at.0) in
    let low : get_or bs n 0 < 128 = omega (arith, feed) in
    subst (λ (k : ℕ). (k < length bs) × (get_or bs k 0 < 128)) at.1 (at.0, low)

pub piece_utf8 : (bs : List ℕ) (i : ℕ) → position (λ b. eqb b 10) bs ≡ Some i → IsUtf8 bs → IsUtf8 (take i bs)
piece_utf8 bs i e fits =
    let at = at_feed bs i e in IsUtf8-take bs i fits (IsCharBoundary-before_ascii bs i at.0 at.1)

pub rest_utf8 : (bs : List ℕ) (i : ℕ) → position (λ b. eqb b 10) bs ≡ Some i → IsUtf8 bs → IsUtf8 (drop (i + 1) bs)
rest_utf8 bs i e fits =
    let at = at_feed bs i e in IsUtf8-drop bs (i + 1) fits (IsCharBoundary-after_ascii bs i fits at.0 at.1)

-- a CR at the end of a piece
last_within : (bs : List ℕ) → get_or bs (length bs - 1) 0 ≡ 13 → length bs - 1 < length bs
last_within [] e = absurd (omega (arith, e))
last_within (b ∷ bs) e = omega arith

pub return_utf8 : (bs : List ℕ) → IsUtf8 bs → IsUtf8 (without_return bs)
return_utf8 bs fits = tests (eqb (get_or bs (length bs - 1) 0) 13) refl
  where
    tests : (t : Bool) → eqb (get_or bs (length bs - 1) 0) 13 ≡ t → IsUtf8 (cond t (take (length bs - 1) bs) bs)
    tests true at =
        let cr : get_or bs (length bs - 1) 0 ≡ 13 = eqb-true (get_or bs (length bs - 1) 0) 13 at in
        IsUtf8-take bs (length bs - 1) fits (IsCharBoundary-before_ascii bs (length bs - 1) (last_within bs cr) (omega (arith, cr)))
    tests false at = fits

pub no_bytes_utf8 : IsUtf8 []
no_bytes_utf8 = IsUtf8-nil
