-- The hash of a text has taken everything where it stands past the units.
use Rattle.std.proofs.Common.{◌≡◌, ℕ, ◌≤◌, List, map, unwrap_or, fold, length, drop, sym, ap, ◌∙◌}
use Rattle.std.specs.Str.{encode_utf8_all}
use Rattle.std.proofs.str.Utf16.{utf16_chars-drop_all}
use Rattle.cf_types.specs.Hash.{hash_step, utf8_of}

-- past the units nothing is left to take
pub all_taken : (units : List ℕ) (at hash whole : ℕ) → length units ≤ at
    → fold hash_step hash (utf8_of (drop at units)) ≡ whole → hash ≡ whole
all_taken units at hash whole past is =
    let none : fold hash_step hash (utf8_of (drop at units)) ≡ hash =
    ap (λ os. fold hash_step hash (encode_utf8_all (map (λ o. unwrap_or o 0xFFFD) os)))
    (utf16_chars-drop_all units at past) in
    sym none ∙ is
