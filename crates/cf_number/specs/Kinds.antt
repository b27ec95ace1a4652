-- The kinds of numbers and what each holds, after the CFNumber reference.
use Rattle.std.specs.Prelude.{ℕ, ◌^◌, Bool, nat_lt, ℤ, pos, negsuc, FitsSigned}
use Rattle.std.specs.Int.{Width, w8, w16, w32, w64}
use Rattle.cf_number.specs.declared.kinds.NumKind.{NumKind}
use Rattle.cf_number.specs.declared.kinds.NumKind.TheVariants.{S8, S16, S32, S64}

-- the number of a kind: kCFNumberSInt8Type to kCFNumberSInt64Type of the CFNumber reference
abbrev pub kind_number : NumKind → ℕ
kind_number S8 = 1
kind_number S16 = 2
kind_number S32 = 3
kind_number S64 = 4

-- how wide the two's complement of a kind is, by the name that the reference gives it
abbrev pub width_of : NumKind → Width
width_of S8 = w8
width_of S16 = w16
width_of S32 = w32
width_of S64 = w64

-- the kind can hold the value: reading a number that has it as that kind loses nothing
abbrev pub FitsKind : NumKind → ℤ → Type 0
FitsKind kind value = FitsSigned (width_of kind) value

-- how many values a kind has above -1, and as many it has below 0
abbrev pub reach_of : NumKind → ℕ
reach_of S8 = 2 ^ 7
reach_of S16 = 2 ^ 15
reach_of S32 = 2 ^ 31
reach_of S64 = 2 ^ 63

-- a kind holds a value: the test of it
abbrev pub fits_kind : NumKind → ℤ → Bool
fits_kind kind (pos n) = nat_lt n (reach_of kind)
fits_kind kind (negsuc n) = nat_lt n (reach_of kind)
