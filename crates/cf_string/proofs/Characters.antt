-- The units of characters are a text, a text is the units of characters, and one text has one UTF-8.
use Rattle.std.proofs.Common.{◌≡◌, ℕ, zero, suc, ◌+◌, ◌-◌, ◌*◌, ◌/◌, ◌%◌, ◌<◌, ◌≤◌, ◌^◌, Bool, true, false, List, [], ◌∷◌, ◌++◌, ◌⊎◌, inl, inr, Some, map, not, is_some, unwrap_or, get_or, refl, sym, ap, ap₂, ◌∙◌, ⊎_elim, arith, lit<}
use Rattle.std.proofs.lemmas.Bool.{cases_lt, and_parts, and_from, and_left, and_right, lt-ltb, le-ltb, le-leb, lt-leb, leb-true, ltb-true, true≢false}
use Rattle.std.proofs.lemmas.Str.{encodes-chars, scalars-chars, utf16_chars_lone, utf16_chars_pair, utf16_chars-nil, chars_from_encodes}
use Rattle.std.proofs.lemmas.List.{get_or_past}
use Rattle.std.specs.List.{list_any}
use Rattle.std.proofs.str.Utf16.{IsPair, one_unit, two_units, pair_units, lone_unit_char_low, lone_unit_char_high}
use Rattle.std.specs.Char.Escape.{encode_utf16}
use Rattle.std.specs.Char.Utf16.{is_high_surrogate, is_low_surrogate, surrogate_pair_char, utf16_chars, utf16_lossy_chars, has_unpaired_surrogate}
use Rattle.std.specs.Str.{IsUtf8, chars, all_scalars, encode_utf8_all}
use lib.Utf8.{scalar, scalar_cases, low_scalar}
use Rattle.cf_string.specs.Units.{IsText, units_of}
use Rattle.cf_string.proofs.Validity.{IsText-nil, IsText-drop, IsText-append}

low_below : (u : ℕ) → u < 0xDC00 → is_low_surrogate u ≡ false
low_below u below = and_left _ _ (lt-leb 0xDC00 u below)

low_above : (u : ℕ) → 0xE000 ≤ u → is_low_surrogate u ≡ false
low_above u above = and_right _ _ (le-ltb u 0xE000 above)

high_below : (u : ℕ) → u < 0xD800 → is_high_surrogate u ≡ false
high_below u below = and_left _ _ (lt-leb 0xD800 u below)

high_above : (u : ℕ) → 0xDC00 ≤ u → is_high_surrogate u ≡ false
high_above u above = and_right _ _ (le-ltb u 0xDC00 above)

high_within : (u : ℕ) → 0xD800 ≤ u → u < 0xDC00 → is_high_surrogate u ≡ true
high_within u from below = and_from _ _ (le-leb 0xD800 u from) (lt-ltb u 0xDC00 below)

low_within : (u : ℕ) → 0xDC00 ≤ u → u < 0xE000 → is_low_surrogate u ≡ true
low_within u from below = and_from _ _ (le-leb 0xDC00 u from) (lt-ltb u 0xE000 below)

low_range : (u : ℕ) → is_low_surrogate u ≡ true → (0xDC00 ≤ u) × (u < 0xE000)
low_range u is = let parts = and_parts _ _ is in (leb-true _ _ parts.0, ltb-true _ _ parts.1)

high_range : (u : ℕ) → is_high_surrogate u ≡ true → (0xD800 ≤ u) × (u < 0xDC00)
high_range u is = let parts = and_parts _ _ is in (leb-true _ _ parts.0, ltb-true _ _ parts.1)

scalar_above : (c : ℕ) → 0xE000 ≤ c → c < 0x11_0000 → scalar c ≡ true
scalar_above c from below =
    rw (le-ltb c 0xD800 (omega arith)) (and_from _ _ (le-leb 0xE000 c from) (lt-ltb c 0x11_0000 below))

-- a unit that is no surrogate is below them or above them
outside : (u : ℕ) → is_high_surrogate u ≡ false → is_low_surrogate u ≡ false → (u < 0xD800) ⊎ (0xE000 ≤ u)
outside u high low = ⊎_elim (λ h. inl h) (λ (from : 0xD800 ≤ u). ⊎_elim
    (λ (below : u < 0xDC00). absurd (true≢false (sym (high_within u from below) ∙ high)))
    (λ (past : 0xDC00 ≤ u). ⊎_elim (λ (within : u < 0xE000). absurd (true≢false (sym (low_within u past within) ∙ low)))
    (λ h. inr h) (cases_lt u 0xE000))
    (cases_lt u 0xDC00)) (cases_lt u 0xD800)

-- one unit that is no surrogate
one_reads : (P : ℕ → Type 0) (u i : ℕ) → P u → P 0 → P (get_or (u ∷ []) i 0)
one_reads P u zero here past = here
one_reads P u (suc i) here past = past

one_paired : (u i : ℕ) → is_high_surrogate u ≡ false
    → is_low_surrogate (get_or (u ∷ []) (i + 1) 0) ≡ is_high_surrogate (get_or (u ∷ []) i 0)
one_paired u zero high = sym high
one_paired u (suc i) high = ap is_low_surrogate (get_or_past (u ∷ []) (suc i + 1) 0 (omega arith))

IsText-one : (u : ℕ) → u < 2 ^ 16 → is_low_surrogate u ≡ false → is_high_surrogate u ≡ false → IsText (u ∷ [])
IsText-one u fits low high =
    record {
      in_range = λ i. one_reads (λ v. v < 2 ^ 16) u i fits (lit< tt);
      starts_whole = low;
      paired = λ i. one_paired u i high;
    }

-- a pair
two_reads : (P : ℕ → Type 0) (u v i : ℕ) → P u → P v → P 0 → P (get_or (u ∷ v ∷ []) i 0)
two_reads P u v zero first second past = first
two_reads P u v (suc i) first second past = one_reads P v i second past

two_paired : (u v i : ℕ) → IsPair u v
    → is_low_surrogate (get_or (u ∷ v ∷ []) (i + 1) 0) ≡ is_high_surrogate (get_or (u ∷ v ∷ []) i 0)
two_paired u v zero pair = low_within v pair.2 pair.3 ∙ sym (high_within u pair.0 pair.1)
two_paired u v (suc zero) pair = sym (high_above v pair.2)
two_paired u v (suc (suc i)) pair = ap is_low_surrogate (get_or_past (u ∷ v ∷ []) (suc (suc i) + 1) 0 (omega arith))

IsText-two : (u v : ℕ) → IsPair u v → IsText (u ∷ v ∷ [])
IsText-two u v pair = record {
  in_range = λ i. two_reads (λ w. w < 2 ^ 16) u v i (omega arith) (omega arith) (lit< tt);
  starts_whole = low_below u pair.1;
  paired = λ i. two_paired u v i pair;
}

-- the units of a character above 0xFFFF are a pair
pair_of : (c : ℕ) → 0x1_0000 ≤ c → c < 0x11_0000
    → IsPair (0xD800 + (c - 0x1_0000) / 0x400) (0xDC00 + (c - 0x1_0000) % 0x400)
pair_of c from below = (omega arith, omega arith, omega arith, omega arith)

IsText-character : (c : ℕ) → scalar c ≡ true → IsText (encode_utf16 c)
IsText-character c is = ⊎_elim
    (λ (below : c < 0xD800). rw (one_unit c (omega arith))
    (IsText-one c (omega arith) (low_below c (omega arith)) (high_below c below)))
    (λ (above : (0xE000 ≤ c) × (c < 0x11_0000)). ⊎_elim
    (λ (one : c < 0x1_0000). rw (one_unit c one) (IsText-one c (omega arith) (low_above c above.0)
    (high_above c (omega arith))))
    (λ (two : 0x1_0000 ≤ c). rw (two_units c two) (IsText-two _ _ (pair_of c two above.1)))
    (cases_lt c 0x1_0000))
    (scalar_cases c is)

-- the units of characters are a text
pub IsText-units_of : (cs : List ℕ) → all_scalars cs ≡ true → IsText (units_of cs)
IsText-units_of [] are = IsText-nil
IsText-units_of (c ∷ cs) are = let parts = and_parts _ _ are in
    IsText-append (encode_utf16 c) (units_of cs) (IsText-character c parts.0) (IsText-units_of cs parts.1)

-- the characters come back from their units
decode_one : (c : ℕ) (rest : List ℕ) → scalar c ≡ true
    → utf16_chars (encode_utf16 c ++ rest) ≡ Some c ∷ utf16_chars rest
decode_one c rest is = ⊎_elim
    (λ (below : c < 0xD800). rw (one_unit c (omega arith))
    (utf16_chars_lone c rest (λ p. absurd (omega arith))
    ∙ ap (λ o. o ∷ utf16_chars rest) (lone_unit_char_low c below)))
    (λ (above : (0xE000 ≤ c) × (c < 0x11_0000)). ⊎_elim
    (λ (one : c < 0x1_0000). rw (one_unit c one) (utf16_chars_lone c rest (λ p. absurd (omega arith))
    ∙ ap (λ o. o ∷ utf16_chars rest) (lone_unit_char_high c above.0)))
    (λ (two : 0x1_0000 ≤ c). rw (two_units c two)
    (utf16_chars_pair _ _ rest (pair_of c two above.1) ∙ ap (λ d. Some d ∷ utf16_chars rest)
    {x = surrogate_pair_char (0xD800 + (c - 0x1_0000) / 0x400) (0xDC00 + (c - 0x1_0000) % 0x400)} {y = c}
    (omega arith)))
    (cases_lt c 0x1_0000))
    (scalar_cases c is)

pub utf16_chars-units_of : (cs : List ℕ) → all_scalars cs ≡ true → utf16_chars (units_of cs) ≡ map (λ c. Some c) cs
utf16_chars-units_of [] are = utf16_chars-nil
utf16_chars-units_of (c ∷ cs) are =
    let parts = and_parts _ _ are in
    decode_one c (units_of cs) parts.0 ∙ ap (λ os. Some c ∷ os) (utf16_chars-units_of cs parts.1)

values : (cs : List ℕ) → map (λ o. unwrap_or o 0xFFFD) (map (λ (c : ℕ). Some c) cs) ≡ cs
values [] = refl
values (c ∷ cs) = ap (λ ds. c ∷ ds) (values cs)

pub utf16_lossy_chars-units_of : (cs : List ℕ) → all_scalars cs ≡ true → utf16_lossy_chars (units_of cs) ≡ cs
utf16_lossy_chars-units_of cs are = ap (λ os. map (λ o. unwrap_or o 0xFFFD) os) (utf16_chars-units_of cs are)
    ∙ values cs

-- characters of one list of units are the same
pub units_of_same : (cs ds : List ℕ) → all_scalars cs ≡ true → all_scalars ds ≡ true → units_of cs ≡ units_of ds
    → cs ≡ ds
units_of_same cs ds are also same = sym (utf16_lossy_chars-units_of cs are) ∙ ap utf16_lossy_chars same
    ∙ utf16_lossy_chars-units_of ds also

-- a text has one UTF-8
pub utf8_same : (bytes others : List ℕ) → IsUtf8 bytes → IsUtf8 others
    → units_of (chars bytes) ≡ units_of (chars others) → bytes ≡ others
utf8_same bytes others utf8 also same =
    let characters = units_of_same (chars bytes) (chars others) (scalars-chars bytes utf8) (scalars-chars others also)
    same in
    sym (encodes-chars bytes utf8) ∙ ap encode_utf8_all characters ∙ encodes-chars others also

-- the characters of a text
pub record Spelled (units : List ℕ) : Type 0 where
  pub characters : List ℕ
  pub are : all_scalars characters ≡ true
  pub spell : units_of characters ≡ units

spelled_one : (u : ℕ) (us : List ℕ) → u < 2 ^ 16 → is_high_surrogate u ≡ false → is_low_surrogate u ≡ false
    → Spelled us
    → Spelled (u ∷ us)
spelled_one u us fits high low rest = record {
  characters = u ∷ rest.characters;
  are = and_from _ _ (⊎_elim (λ below. low_scalar u below) (λ above. scalar_above u above (omega arith))
      (outside u high low)) rest.are;
  spell = rw (one_unit u (omega arith)) (ap (λ vs. u ∷ vs) rest.spell);
}

spelled_pair : (u v : ℕ) (us : List ℕ) → IsPair u v → Spelled us → Spelled (u ∷ v ∷ us)
spelled_pair u v us pair rest =
    let c = 0x1_0000 + ((u - 0xD800) * 0x400 + (v - 0xDC00)) in
    record {
      characters = c ∷ rest.characters;
      are = and_from _ _ (scalar_above c (omega arith) (omega arith)) rest.are;
      spell = ap₂ (λ xs ys. xs ++ ys) (pair_units u v pair.0 pair.2 pair.3) rest.spell;
    }

spelled_by : (u v : ℕ) (us : List ℕ) (high : Bool) → is_high_surrogate u ≡ high → IsText (u ∷ v ∷ us)
    → (IsText us → Spelled us) → (IsText (v ∷ us) → Spelled (v ∷ us)) → Spelled (u ∷ v ∷ us)
spelled_by u v us true is text rest tail =
    let first = high_range u is in
    let second = low_range v (text.paired 0 ∙ is) in
    let after : IsText us = IsText-drop (u ∷ v ∷ us) 2 text (text.paired 1 ∙ high_above v second.0) in
    spelled_pair u v us (first.0, first.1, second.0, second.1) (rest after)
spelled_by u v us false is text rest tail =
    let after : IsText (v ∷ us) = IsText-drop (u ∷ v ∷ us) 1 text (text.paired 0 ∙ is) in
    spelled_one u (v ∷ us) (text.in_range 0) is text.starts_whole (tail after)

-- a text is the units of characters
pub spelled : (units : List ℕ) → IsText units → Spelled units
spelled [] text = record { characters = []; are = refl; spell = refl }
spelled (u ∷ []) text = spelled_one u [] (text.in_range 0) (sym (text.paired 0)) text.starts_whole
    (spelled [] IsText-nil)
spelled (u ∷ v ∷ us) text = spelled_by u v us _ refl text (spelled us) (spelled (v ∷ us))

none_unpaired : (cs : List ℕ) → list_any (λ o. not (is_some o)) (map (λ (c : ℕ). Some c) cs) ≡ false
none_unpaired [] = refl
none_unpaired (c ∷ cs) = none_unpaired cs

pub has_unpaired_surrogate-text : (units : List ℕ) → IsText units → has_unpaired_surrogate units ≡ false
has_unpaired_surrogate-text units text =
    let known = spelled units text in
    ap has_unpaired_surrogate (sym known.spell)
    ∙ ap (list_any (λ o. not (is_some o))) (utf16_chars-units_of known.characters known.are)
    ∙ none_unpaired known.characters

-- any UTF-8 of characters with these units spells the same units again
pub units_of-chars : (cs bytes : List ℕ) → IsUtf8 bytes → bytes ≡ encode_utf8_all cs
    → units_of (chars bytes) ≡ units_of cs
units_of-chars cs bytes utf8 is = ap units_of (sym (chars_from_encodes cs bytes utf8 (sym is)))
