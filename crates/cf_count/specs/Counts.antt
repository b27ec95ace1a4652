-- The count of an object, in two parts: a byte, and a number that is kept elsewhere, of which each one stands for 64.
-- That a count is split so is after CFRuntime.c; the bits and the tables are this project's own.
use Rattle.std.specs.Prelude.{ℕ, ◌+◌, ◌-◌, ◌*◌, ◌%◌, ◌<◌, ◌==◌, nat_lt, nat_le, Bool, IsTrue, ◌↔◌, List, [], ◌∷◌, Option, find, if◌then◌else◌}
use Rattle.std.specs.Option.{option_map}

-- a count: the byte, and the external number
pub record Count : Type 0 where
  pub byte : ℕ
  pub external : ℕ

-- the low seven bits of a byte, which count
abbrev pub low_bits : ℕ → ℕ
low_bits byte = byte % 128

-- whether bit 7 of a byte is set
abbrev pub has_bit_7 : ℕ → Bool
has_bit_7 byte = nat_le 128 byte

-- the composite count: how many references the two parts count
abbrev pub composite : Count → ℕ
composite c = low_bits c.byte + 64 * c.external

-- bit 7 is set exactly if an external number is left
abbrev pub TellsExternal : Count → Type 0
TellsExternal c = IsTrue (has_bit_7 c.byte) ↔ (0 < c.external)

-- the byte after an unroll that leaves this external number: 63 references, and bit 7 if a number is left
abbrev pub unrolled_byte : ℕ → ℕ
unrolled_byte external = if nat_lt 0 external then 191 else 63

-- ---- the tables of changes

-- a row: the bytes that it is for, and what becomes of the count
pub record Row : Type 0 where
  pub fits : ℕ → Bool
  pub after : Count → Count

-- the count after a change: by the first row that is for its byte
abbrev pub objects_after : List Row → Count → Option Count
objects_after rows c = option_map (λ r. r.after c) (find (λ r. r.fits c.byte) rows)

-- an object is made, with one reference
abbrev pub make_rows : List Row
make_rows = record { fits = λ byte. byte == 0; after = λ c. record c { byte = 1 } } ∷ []

-- one reference more. The low bits take it, up to 127. Then the count rolls: of 128 references 64 stay in the byte,
-- and the others are one more of the external number
abbrev pub retain_rows : List Row
retain_rows =
    record { fits = λ byte. nat_lt (low_bits byte) 127; after = λ c. record c { byte = c.byte + 1 } }
    ∷ record { fits = λ byte. low_bits byte == 127; after = λ c. record { byte = 192; external = c.external + 1 } }
    ∷ []

-- one reference less, of a byte above 0. The last one leaves 0. Where the low bits are 0 and bit 7 is set the count
-- unrolls: one of the external number is 64 references, of which 63 are left in the byte, and bit 7 stays set exactly
-- if an external number is left. Else the low bits lose one
abbrev pub release_rows : List Row
release_rows =
    record { fits = λ byte. byte == 1; after = λ c. record c { byte = 0 } }
    ∷ record {
      fits = λ byte. byte == 128;
      after = λ c. record {
        byte = unrolled_byte (c.external - 1);
        external = c.external - 1;
      };
    }
    ∷ record { fits = λ byte. nat_lt 0 byte; after = λ c. record c { byte = c.byte - 1 } }
    ∷ []
