-- The date after a call, as the code finds it: one interval after the last date that is not past the call.
use Rattle.std.proofs.Common.{◌≡◌, ℕ, ◌+◌, ◌-◌, ◌*◌, ◌/◌, ◌%◌, ◌<◌, ◌≤◌, arith}
use Rattle.std.proofs.Math.Nat.{mul_comm, add-div_right, div-eq_of_lt}

pub date_by_remainder : (first interval now : ℕ) → 0 < interval → first ≤ now
    → first + (now + interval - first) / interval * interval ≡ now - (now - first) % interval + interval
date_by_remainder first m now positive late =
    let n = now - first in
    let sum : now + m - first ≡ n + m = omega arith in
    let q = n / m in
    let more : (n + m) / m ≡ q + 1 = add-div_right n positive in
    let whole : m * q + n % m ≡ n = omega arith in
    let turned : (q + 1) * m ≡ m * q + m = omega (arith, mul_comm m q) in
    rw (sum, more, turned) (omega arith)

-- before the first date the multiple is zero
pub date_before_first : (first interval now : ℕ) → 0 < interval → now < first
    → first + (now + interval - first) / interval * interval ≡ first
date_before_first first m now positive early =
    let none : (now + m - first) / m ≡ 0 = div-eq_of_lt (omega arith) in rw none (omega arith)
