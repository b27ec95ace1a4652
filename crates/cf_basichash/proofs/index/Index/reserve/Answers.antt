-- Answers to the goals of `index::Index::reserve`.
use Rattle.std.proofs.Common.{arith}
use Rattle.cf_basichash.proofs.index.Index.reserve.Goals as goal

pub next_power_of_two-requires : goal.next_power_of_two-requires
next_power_of_two-requires c = omega arith
