-- Answers to the goals of `modes::leave`.
use Rattle.std.proofs.Common.{sym, ◌∙◌, refl}
use Rattle.rl_modes.proofs.News.{without_none}
use Rattle.rl_modes.proofs.modes.leave.Goals as goal

pub returns-else-holds-clause-gone : goal.returns-else-holds-clause-gone
returns-else-holds-clause-gone c = rw (without_none c.args.item c.args.place.now c.args.holdings.now.held
    (sym c.holds.ensures ∙ c.if-holds.false)) refl
