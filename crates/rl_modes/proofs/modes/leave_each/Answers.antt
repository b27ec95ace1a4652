-- Answers to the goals of `modes::leave_each`.
use Rattle.std.proofs.Common.{refl, arith}
use Rattle.rl_modes.proofs.News.{leaves_more, leaves_none}
use Rattle.rl_modes.proofs.modes.leave_each.Goals as goal

pub loop-mode-preserved : goal.loop-mode-preserved
loop-mode-preserved c = (
  leaves_more c.args.item c.args.modes.now c.loop-mode.mode-index c.mode-item.result
      c.args.holdings.now c.loop-mode.holdings c.leave.new.holdings c.loop-mode.invariant.0 c.leave.ensures.gone
      c.loop-mode-test.true c.mode-item.is,
  omega (arith, c.leave.ensures.no_more, c.loop-mode.invariant.1),
)

pub loop-mode-init : goal.loop-mode-init
loop-mode-init c = (rw (← leaves_none c.args.item c.args.holdings.now.held) refl, omega arith)
