-- Answers to the goals of `modes::Modes::reserve`.
use Rattle.std.proofs.Common.{arith}
use Rattle.rl_modes.proofs.modes.Modes.reserve.Goals as goal

pub invariant_of-self-2 : goal.invariant_of-self-2
invariant_of-self-2 c = record {
  rising = rw c.in_ok-reserve.ensures.items c.self.invariant.rising;
  within = rw c.hold.ensures.held (omega (
    arith,
    c.in_ok-reserve.ensures.len,
    c.hold.ensures.kept,
    c.self.invariant.within,
  ));
  fits = omega (
    arith,
    c.hold.ensures.most,
    c.in_ok-reserve.ensures.ok,
    c.in_ok-reserve.ensures.len,
    c.in_ok-reserve.ensures.capacity,
    c.self.invariant.fits,
    c.len-2.ensures,
  );
}
