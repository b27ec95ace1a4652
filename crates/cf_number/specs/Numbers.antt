-- What contracts see of a number, and how numbers are ordered.
use Rattle.std.specs.Prelude.{ℤ}
use Rattle.std.specs.Ordering.{int_cmp, on}
use Rattle.std.specs.declared.cmp.Ordering.{Ordering}
use Rattle.cf_number.specs.declared.kinds.NumKind.{NumKind}

-- what a number is to its callers: its value, and the kind that it was made with
pub record Number : Type 0 where
  pub kind : NumKind
  pub value : ℤ

-- numbers are ordered by value alone, whatever their kinds: this project's own
abbrev pub order_of : Number → Number → Ordering
order_of = on (λ (n : Number). n.value) int_cmp
