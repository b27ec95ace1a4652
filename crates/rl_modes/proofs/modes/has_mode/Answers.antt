-- Answers to the goals of `modes::has_mode`.
use Rattle.std.proofs.Common.{sym, ◌∙◌, ap, eqb}
use Rattle.rl_modes.proofs.Sound.{modes_parted, among_at, among_past}
use Rattle.rl_modes.proofs.modes.has_mode.Goals as goal

pub spot_of-at-requires : goal.spot_of-at-requires
spot_of-at-requires c = modes_parted c.args.mode c.args.modes.now c.requires

pub returns-then-at-modes : goal.returns-then-at-modes
returns-then-at-modes c = rw (c.found.view_is, c.mode.view_is) (ap (λ n. eqb n c.args.mode) c.index-modes-at.is
    ∙ among_at c.args.mode c.args.modes.now c.spot_of-at.result c.requires c.spot_of-at.ensures
    c.index-modes-at.result c.if-at-modes.true)

pub returns-else-at-modes : goal.returns-else-at-modes
returns-else-at-modes c = sym (among_past c.args.mode c.args.modes.now c.spot_of-at.result c.requires
    c.spot_of-at.ensures c.if-at-modes.false)
