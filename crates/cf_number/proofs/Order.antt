-- The order of numbers is that of their values, and it is total.
use Rattle.std.proofs.Common.{◌≡◌, ◌<ℤ◌, sym}
use Rattle.std.specs.Prelude.{◌↔◌}
use Rattle.std.specs.Ordering.{MatchOrdering}
use Rattle.std.specs.Cmp.{IsTotalOrder, int_cmp_total, int_ranks, int_ranked, int_cmp_is, on_total}
use Rattle.std.specs.declared.cmp.Ordering.TheVariants.{Equal}
use Rattle.cf_number.specs.Numbers.{Number, order_of}

-- the order by value is total
pub order_of_total : IsTotalOrder order_of
order_of_total = on_total (λ (n : Number). n.value) int_cmp_total

-- what each answer says of the two values
pub order_of_ranks : (a b : Number)
    → MatchOrdering (order_of a b) (a.value <ℤ b.value) (a.value ≡ b.value) (b.value <ℤ a.value)
order_of_ranks a b = int_ranks a.value b.value

-- the answer is `Equal` exactly if the values are equal
pub order_of-Equal : (a b : Number) → (order_of a b ≡ Equal) ↔ (a.value ≡ b.value)
order_of-Equal a b = (λ e. int_ranked a.value b.value Equal (sym e), λ e. sym (int_cmp_is a.value b.value Equal e))
