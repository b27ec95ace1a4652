-- The words that are numbers, bytes and kinds. This project's own.
use Rattle.std.specs.Prelude.{ℕ, ◌+◌, ◌-◌, ◌*◌, ◌^◌, Bool, false, not, ◌&&◌, ℤ, pos, neg_ℤ, List, [], ◌∷◌, length, drop, codes, Option, Some, None, slice_index, nat_lt, nat_le, bit_and, ◌==◌, Result, Ok, Err, if◌then◌else◌}
use Rattle.std.specs.Option.{option_map}
use Rattle.std.specs.List.{list_all}
use Rattle.std.specs.Int.{is_in_range}
use Rattle.std.specs.Str.{bytes_eq}
use Rattle.cf_ids.specs.declared.limits.TheConstants.{FIELDS}
use Rattle.hex.specs.Hex.{decode_of}
use Rattle.hex.specs.declared.error.FromHexError.{FromHexError}
use Rattle.cf_number.specs.declared.kinds.NumKind.{NumKind}
use Rattle.cf_number.specs.declared.kinds.NumKind.TheVariants.{S8, S16, S32, S64}

-- 0 to 9
abbrev pub is_digit : ℕ → Bool
is_digit b = is_in_range 48 57 b

-- one digit or more, and nothing else
abbrev pub is_numeral : List ℕ → Bool
is_numeral word = not (length word == 0) && list_all is_digit word

-- the number that digits write after those of n
abbrev pub decimal_from : ℕ → List ℕ → ℕ
decimal_from n [] = n
decimal_from n (b ∷ bs) = decimal_from (n * 10 + (b - 48)) bs

-- the number that digits write
abbrev pub decimal_value : List ℕ → ℕ
decimal_value word = decimal_from 0 word

-- the number of a numeral that is below a limit
abbrev pub number_below : ℕ → List ℕ → Option ℕ
number_below limit word =
    if is_numeral word && nat_lt (decimal_value word) limit then Some (decimal_value word) else None

-- an INDEX
abbrev pub index_of : List ℕ → Option ℕ
index_of word = number_below (2 ^ 32) word

-- a UNUM
abbrev pub unum_of : List ℕ → Option ℕ
unum_of word = number_below (2 ^ 64) word

-- a number of fields, which is an INDEX of at most 255
abbrev pub is_field_count : Option ℕ → Bool
is_field_count None = false
is_field_count (Some n) = nat_le n FIELDS

-- a UNUM that is 0, as the limit of a run is until time comes: so a run is past its deadline at once
abbrev pub is_zero : Option ℕ → Bool
is_zero None = false
is_zero (Some n) = n == 0

-- a MASK: at least one of the bits 1, 2, 4, 32, 64 and 128, and no other
abbrev pub is_mask : Option ℕ → Bool
is_mask None = false
is_mask (Some n) = nat_lt 0 n && bit_and n 231 == n

-- an INT: a numeral, with - (45) before it where it is negative
abbrev pub integer_of : List ℕ → Option ℤ
integer_of word =
    if slice_index word 0 == 45 then option_map (λ n. neg_ℤ (pos n)) (number_below (2 ^ 63 + 1) (drop 1 word))
    else option_map pos (number_below (2 ^ 63) word)

-- the bytes that hexadecimal digits spell, two for each
abbrev pub decoded : Result (List ℕ) FromHexError → Option (List ℕ)
decoded (Ok bytes) = Some bytes
decoded (Err e) = None

-- the bytes of a HEX: - for none, or an even number of hexadecimal digits
abbrev pub bytes_of : List ℕ → Option (List ℕ)
bytes_of word = if bytes_eq word (codes "-") then Some [] else decoded (decode_of word)

-- a KIND
abbrev pub kind_of : List ℕ → Option NumKind
kind_of word =
    if bytes_eq word (codes "s8") then Some S8
    else (if bytes_eq word (codes "s16") then Some S16
    else (if bytes_eq word (codes "s32") then Some S32
    else (if bytes_eq word (codes "s64") then Some S64
    else None)))
