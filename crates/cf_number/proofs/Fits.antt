-- The test of a kind says whether the kind holds the value.
use Rattle.std.proofs.Common.{◌≡◌, ◌^◌, true, refl, arith}
use Rattle.std.specs.Prelude.{ℤ, pos, negsuc}
use Rattle.std.proofs.lemmas.Bool.{ltb-true, lt-ltb}
use mir.Val.{hbits}
use Rattle.cf_number.specs.declared.kinds.NumKind.{NumKind}
use Rattle.cf_number.specs.declared.kinds.NumKind.TheVariants.{S8, S16, S32, S64}
use Rattle.cf_number.specs.Kinds.{width_of, FitsKind, reach_of, fits_kind}

reach : (kind : NumKind) → reach_of kind ≡ 2 ^ hbits (width_of kind)
reach S8 = refl
reach S16 = refl
reach S32 = refl
reach S64 = refl

pub fits_from_test : (kind : NumKind) (value : ℤ) → fits_kind kind value ≡ true → FitsKind kind value
fits_from_test kind (pos n) h = record { sfits = omega (arith, ltb-true n (reach_of kind) h, reach kind) }
fits_from_test kind (negsuc n) h = record { sfits = omega (arith, ltb-true n (reach_of kind) h, reach kind) }

pub test_from_fits : (kind : NumKind) (value : ℤ) → FitsKind kind value → fits_kind kind value ≡ true
test_from_fits kind (pos n) h = lt-ltb n (reach_of kind) (omega (arith, h.sfits, reach kind))
test_from_fits kind (negsuc n) h = lt-ltb n (reach_of kind) (omega (arith, h.sfits, reach kind))
