-- The test of a HEX beside its bytes.
use Rattle.std.proofs.Common.{◌≡◌, inl, inr, ℕ, ◌%◌, false, List, length, Result, Ok, Err, refl, ap, sym, ◌∙◌}
use Rattle.std.specs.Prelude.{is_some, codes}
use Rattle.std.specs.List.{list_all}
use Rattle.std.specs.Str.{bytes_eq}
use Rattle.std.proofs.lemmas.Bool.{cases_Bool}
use Rattle.std.proofs.lemmas.List.Sums.{AllPass-from_list_all, list_all-from_AllPass}
use Rattle.hex.specs.Hex.{decode_of, is_hex_digit}
use Rattle.hex.specs.declared.error.FromHexError.{FromHexError}
use Rattle.hex.proofs.HexLemmas.{decode_of-ok, decode_of-odd, decode_of-digits}
use Rattle.cf_syntax.specs.Numbers.{decoded, bytes_of}

-- a text of an odd length is no HEX
odd_decoded : (word : List ℕ) → length word % 2 ≡ 1 → is_some (decoded (decode_of word)) ≡ false
odd_decoded word odd = rw (decode_of-odd word odd) refl

refused : (word : List ℕ) (r : Result (List ℕ) FromHexError) → decode_of word ≡ r → list_all is_hex_digit word ≡ false
    → is_some (decoded r) ≡ false
refused word (Ok bytes) e none = absurd cc (sym none ∙ list_all-from_AllPass is_hex_digit word (decode_of-ok word bytes e).1)
refused word (Err f) e none = refl

-- one of an even length is one where all bytes are digits
even_decoded : (word : List ℕ) → length word % 2 ≡ 0 → is_some (decoded (decode_of word)) ≡ list_all is_hex_digit word
even_decoded word even =
    elim (cases_Bool (list_all is_hex_digit word)) [
      | inl all ↦
          let r = decode_of-digits word even (AllPass-from_list_all is_hex_digit word all) in
          ap (λ (d : Result (List ℕ) FromHexError). is_some (decoded d)) r.1 ∙ sym all
      | inr none ↦ refused word (decode_of word) refl none ∙ sym none
    ]

pub hex_odd : (word : List ℕ) → length word % 2 ≡ 1 → bytes_eq word (codes "-") ≡ false
    → is_some (bytes_of word) ≡ false
hex_odd word odd plain = rw plain (odd_decoded word odd)

pub hex_even : (word : List ℕ) → length word % 2 ≡ 0 → bytes_eq word (codes "-") ≡ false
    → is_some (bytes_of word) ≡ list_all is_hex_digit word
hex_even word even plain = rw plain (even_decoded word even)
