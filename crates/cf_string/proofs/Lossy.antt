-- The first character of the units from a place on, as the code reads it.
use Rattle.std.proofs.Common.{◌≡◌, ℕ, ◌+◌, ◌<◌, ◌≤◌, true, false, ◌&&◌, List, ◌∷◌, map, unwrap_or, length, drop, get_or, sym, ap, ◌∙◌, arith}
use Rattle.std.proofs.Math.ListN.{get_or-eq_default}
use Rattle.std.proofs.lemmas.Bool.{and_parts, and_from, leb-true, ltb-true, le-leb, lt-ltb, true≢false}
use Rattle.std.proofs.str.Utf16.{IsPair, utf16_chars-drop_lone, utf16_chars-drop_pair}
use Rattle.std.specs.Char.Utf16.{is_high_surrogate, is_low_surrogate, lone_unit_char, surrogate_pair_char, utf16_lossy_chars}

-- what the test of a pair says
IsPair-tested : (u v : ℕ) → (is_high_surrogate u && is_low_surrogate v) ≡ true → IsPair u v
IsPair-tested u v is =
    let parts = and_parts _ _ is in
    let high = and_parts _ _ parts.0 in
    let low = and_parts _ _ parts.1 in
    (leb-true _ _ high.0, ltb-true _ _ high.1, leb-true _ _ low.0, ltb-true _ _ low.1)

not_IsPair-tested : (u v : ℕ) → (is_high_surrogate u && is_low_surrogate v) ≡ false → ¬ (IsPair u v)
not_IsPair-tested u v is pair =
    let yes = and_from _ _ (and_from _ _ (le-leb _ _ pair.0) (lt-ltb _ _ pair.1))
    (and_from _ _ (le-leb _ _ pair.2) (lt-ltb _ _ pair.3)) in
    true≢false (sym yes ∙ is)

-- a unit in no pair is the first character
lone_at : (units : List ℕ) (at result : ℕ) → at < length units
    → ¬ (IsPair (get_or units at 0) (get_or units (at + 1) 0))
    → result ≡ unwrap_or (lone_unit_char (get_or units at 0)) 0xFFFD
    → utf16_lossy_chars (drop at units) ≡ result ∷ utf16_lossy_chars (drop (at + 1) units)
lone_at units at result within apart made =
    ap (map (λ o. unwrap_or o 0xFFFD)) (utf16_chars-drop_lone units at within apart)
    ∙ ap (λ c. c ∷ utf16_lossy_chars (drop (at + 1) units)) (sym made)

-- the last unit is in no pair
pub last_at : (units : List ℕ) (at result : ℕ) → at < length units → length units ≤ at + 1
    → result ≡ unwrap_or (lone_unit_char (get_or units at 0)) 0xFFFD
    → utf16_lossy_chars (drop at units) ≡ result ∷ utf16_lossy_chars (drop (at + 1) units)
last_at units at result within last made =
    lone_at units at result within (omega (arith, get_or-eq_default units 0 {n = at + 1} last)) made

pub apart_at : (units : List ℕ) (at result : ℕ) → at < length units
    → (is_high_surrogate (get_or units at 0) && is_low_surrogate (get_or units (at + 1) 0)) ≡ false
    → result ≡ unwrap_or (lone_unit_char (get_or units at 0)) 0xFFFD
    → utf16_lossy_chars (drop at units) ≡ result ∷ utf16_lossy_chars (drop (at + 1) units)
apart_at units at result within apart made = lone_at units at result within (not_IsPair-tested _ _ apart) made

-- the units of a pair are the first character
pub pair_at : (units : List ℕ) (at result : ℕ) → at + 1 < length units
    → (is_high_surrogate (get_or units at 0) && is_low_surrogate (get_or units (at + 1) 0)) ≡ true
    → result ≡ surrogate_pair_char (get_or units at 0) (get_or units (at + 1) 0)
    → utf16_lossy_chars (drop at units) ≡ result ∷ utf16_lossy_chars (drop (at + 2) units)
pair_at units at result within are made =
    ap (map (λ o. unwrap_or o 0xFFFD)) (utf16_chars-drop_pair units at within (IsPair-tested _ _ are))
    ∙ ap (λ c. c ∷ utf16_lossy_chars (drop (at + 2) units)) (sym made)
