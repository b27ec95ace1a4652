-- The hash: this project's own.
use Rattle.std.specs.Prelude.{ℕ, ◌+◌, ◌*◌, ◌%◌, ◌^◌, List, ◌++◌, fold}
use Rattle.std.specs.Char.Utf16.{utf16_lossy_chars}
use Rattle.std.specs.Int.{w16, w32, w64, to_be_bytes, cast_unsigned}
use Rattle.std.specs.Str.{encode_utf8_all}
use Rattle.cf_types.specs.Views.{FormView, text_form, data_form, whole_form, same_form, LeafView}

-- how a hash takes a byte
abbrev pub hash_step : ℕ → ℕ → ℕ
hash_step hash byte = (hash * 33 + byte) % 2 ^ 64

-- the hash of bytes
abbrev pub hash_of : List ℕ → ℕ
hash_of bytes = fold hash_step 5381 bytes

-- the UTF-8 of a text, which is a list of UTF-16 units
abbrev pub utf8_of : List ℕ → List ℕ
utf8_of units = encode_utf8_all (utf16_lossy_chars units)

-- the bytes of a form: a text in UTF-8, data as it is, a value in eight bytes of two's complement and an
-- object's number in four, the high byte first
abbrev pub form_bytes : FormView → List ℕ
form_bytes (text_form units) = utf8_of units
form_bytes (data_form bytes) = bytes
form_bytes (whole_form value) = to_be_bytes w64 (cast_unsigned w64 value)
form_bytes (same_form id) = to_be_bytes w32 id

-- the bytes of a leaf: the number of its type in two bytes, the high byte first, and then its form
abbrev pub leaf_bytes : LeafView → List ℕ
leaf_bytes leaf = to_be_bytes w16 leaf.class ++ form_bytes leaf.form
