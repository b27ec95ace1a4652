-- Answers to the goals of `modes::Modes::is_common`.
use Rattle.std.proofs.Common.{suc, arith}
use Rattle.rl_modes.proofs.modes.Modes.is_common.Goals as goal

pub has_mode-requires : goal.has_mode-requires
has_mode-requires c = rw c.as_slice.ensures.value (λ i j d lt below. c.self.invariant.rising (suc i) (suc j) d
    (omega arith) (omega arith))
