-- The loop invariants of `modes::leave_each`.
use Rattle.std.proofs.Common.{◌≡◌, ◌≤◌, length, map, take}
use Rattle.rl_base.specs.declared.places.Place.TheVariants.{Mode}
use Rattle.rl_modes.specs.Loops.{without}
use Rattle.rl_modes.proofs.modes.leave_each.Given as goal

abbrev pub invariant-loop-mode : goal.invariant-loop-mode
invariant-loop-mode l =
    (l.holdings ≡ record l.initial.holdings {
      held = without l.item (map Mode (take l.mode-index l.modes))
          l.initial.holdings.held;
    })
    × (length l.holdings.held ≤ length l.initial.holdings.held)
