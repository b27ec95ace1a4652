-- The UTF-8 of a text is what its units spell, and no other bytes spell it.
use Rattle.std.proofs.Common.{◌≡◌, ℕ, List, ap, sym, ◌∙◌}
use Rattle.std.proofs.lemmas.Str.{encodes-chars, scalars-chars}
use Rattle.std.specs.Char.Utf16.{utf16_lossy_chars}
use Rattle.std.specs.Str.{IsUtf8, chars, encode_utf8_all}
use Rattle.cf_string.specs.Units.{IsText, units_of}
use Rattle.cf_string.proofs.Characters.{spelled, units_of-chars, utf16_lossy_chars-units_of}
use Rattle.cf_types.specs.Hash.{utf8_of}

-- bytes of UTF-8 are that of the text which they spell
pub utf8_of-is : (units bytes : List ℕ) → IsUtf8 bytes → units_of (chars bytes) ≡ units → utf8_of units ≡ bytes
utf8_of-is units bytes utf8 spell =
    ap utf8_of (sym spell) ∙ ap encode_utf8_all (utf16_lossy_chars-units_of (chars bytes) (scalars-chars bytes utf8))
    ∙ encodes-chars bytes utf8

-- the UTF-8 of a text is UTF-8, and spells it
pub utf8_of-spells : (units : List ℕ) → IsText units → IsUtf8 (utf8_of units)
    × (units_of (chars (utf8_of units)) ≡ units)
utf8_of-spells units text =
    let known = spelled units text in
    let lossy : utf16_lossy_chars units ≡ known.characters =
    ap utf16_lossy_chars (sym known.spell) ∙ utf16_lossy_chars-units_of known.characters known.are in
    let bytes : utf8_of units ≡ encode_utf8_all known.characters = ap encode_utf8_all lossy in
    let utf8 : IsUtf8 (utf8_of units) = (known.characters, (known.are, sym bytes)) in
    (utf8, units_of-chars known.characters (utf8_of units) utf8 bytes ∙ known.spell)
