-- Answers to the goals of `modes::Modes::remove_common`.
use Rattle.std.proofs.Common.{ap, ◌∙◌}
use Rattle.rl_base.specs.Modes.{places_of}
use Rattle.rl_modes.specs.Fields.{Held}
use Rattle.rl_modes.specs.Loops.{Loop, holds_at, without}
use Rattle.rl_modes.proofs.Sound.{left_all}
use Rattle.rl_modes.proofs.modes.Modes.remove_common.Goals as goal

pub returns-clause-held : goal.returns-clause-held
returns-clause-held c =
    ap {A = Held} (λ h. h.held) (left_all c.args.i c.self.inside.further.items c.self.inside.holdings
    c.leave.new.holdings c.leave-2.new.holdings c.leave_each.new.holdings c.leave.ensures.gone
    c.leave-2.ensures.gone (rw c.as_slice.ensures.value at c.leave_each.ensures.gone))
    ∙ ap {A = Loop} (λ v. without c.args.i (places_of (holds_at v.held c.args.i) v.common_modes) v.held) c.self.view_is
