-- Answers to the goals of `modes::enter_each`.
use Rattle.std.proofs.Common.{arith}
use Rattle.rl_modes.proofs.News.{enters_more, enters_room}
use Rattle.rl_modes.proofs.modes.enter_each.Goals as goal

pub enter-requires : goal.enter-requires
enter-requires c = rw c.loop-mode.invariant (omega (
  arith,
  enters_room c.args.item.now c.args.modes.now
      c.loop-mode.mode-index c.args.holdings.now.held c.loop-mode-test.true,
))

pub loop-mode-preserved : goal.loop-mode-preserved
loop-mode-preserved c = enters_more c.args.item.now c.args.modes.now c.loop-mode.mode-index c.mode-item.result
    c.args.holdings.now c.loop-mode.holdings c.enter.new.holdings c.loop-mode.invariant c.enter.ensures
    c.loop-mode-test.true c.mode-item.is
