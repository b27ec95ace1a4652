-- Texts as lists of the code units of UTF-16, after the Unicode Standard, chapter 3, "Unicode Encoding Forms".
use Rattle.std.specs.Prelude.{◌≡◌, ℕ, ◌+◌, ◌-◌, ◌^◌, ◌<◌, ◌≤◌, Bool, false, ◌&&◌, List, ◌++◌, length, take, drop, slice_index}
use Rattle.std.specs.Char.Escape.{encode_utf16}
use Rattle.std.specs.Char.Utf16.{is_high_surrogate, is_low_surrogate}
use Rattle.std.specs.List.{flat_map}

-- what contracts see of a `Str`: its units, and how many more it has room for
pub record StrView : Type 0 where
  pub units : List ℕ
  pub room : ℕ

-- the units of the characters: one unit for each below 0x10000, else a pair of surrogates
abbrev pub units_of : List ℕ → List ℕ
units_of characters = flat_map encode_utf16 characters

-- the units are a text: each has 16 bits, the first is no low surrogate, and a low surrogate stands after
-- each high one and nowhere else. Past the end `slice_index` is 0, which is no surrogate
pub record IsText (units : List ℕ) : Type 0 where
  pub in_range : (i : ℕ) → slice_index units i < 2 ^ 16
  pub starts_whole : is_low_surrogate (slice_index units 0) ≡ false
  pub paired : (i : ℕ) → is_low_surrogate (slice_index units (i + 1)) ≡ is_high_surrogate (slice_index units i)

-- whether the place i falls inside a pair
abbrev pub splits_pair : List ℕ → ℕ → Bool
splits_pair units i = is_high_surrogate (slice_index units (i - 1)) && is_low_surrogate (slice_index units i)

-- the units with `len` of them from `at` on taken out, and those of `other` put in there (this project's own)
abbrev pub replacement : List ℕ → ℕ → ℕ → List ℕ → List ℕ
replacement units at len other = take at units ++ other ++ drop (at + len) units

-- the units of `other` stand in the text, the first of them at the place i. An empty `other` stands at each
-- place up to the length
abbrev pub StandsAt : List ℕ → List ℕ → ℕ → Type 0
StandsAt units other i = (i + length other ≤ length units) × (take (length other) (drop i units) ≡ other)

-- the place i is the least from `start` on where `other` stands
pub record IsFirstPlace (units other : List ℕ) (start i : ℕ) : Type 0 where
  pub after : start ≤ i
  pub stands : StandsAt units other i
  pub least : (k : ℕ) → start ≤ k → k < i → ¬ (StandsAt units other k)

-- the units of `other` stand at no place from `start` on
abbrev pub StandsNowhereFrom : List ℕ → List ℕ → ℕ → Type 0
StandsNowhereFrom units other start = (k : ℕ) → start ≤ k → ¬ (StandsAt units other k)
