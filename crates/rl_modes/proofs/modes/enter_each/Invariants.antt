-- The loop invariants of `modes::enter_each`.
use Rattle.std.proofs.Common.{◌≡◌, map, take}
use Rattle.rl_base.specs.declared.places.Place.TheVariants.{Mode}
use Rattle.rl_modes.specs.Loops.{in_each}
use Rattle.rl_modes.specs.Fields.{with_new}
use Rattle.rl_modes.proofs.modes.enter_each.Given as goal

abbrev pub invariant-loop-mode : goal.invariant-loop-mode
invariant-loop-mode l =
    l.holdings ≡ record l.initial.holdings {
      held = with_new (in_each l.item (map Mode (take l.mode-index l.modes)))
          l.initial.holdings.held;
    }
