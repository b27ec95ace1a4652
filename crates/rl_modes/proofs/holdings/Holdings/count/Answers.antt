-- Answers to the goals of `holdings::Holdings::count`.
use Rattle.std.proofs.Common.{rules}
use Rattle.rl_modes.proofs.Pairs.{length-paired}
use Rattle.rl_modes.proofs.holdings.Holdings.count.Goals as goal

pub returns-clause-count : goal.returns-clause-count
returns-clause-count c = rw (← c.self.view_is) (rw (length-paired _ _ c.self.invariant.1.places_long) (search rules))
