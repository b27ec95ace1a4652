-- The loop invariants of `modes::gain_each`.
use Rattle.std.proofs.Common.{◌≡◌, take}
use Rattle.rl_base.specs.declared.places.Place.TheVariants.{Common}
use Rattle.rl_modes.specs.Loops.{each_in, items_at}
use Rattle.rl_modes.specs.Fields.{with_new}
use Rattle.rl_modes.proofs.modes.gain_each.Given as goal

abbrev pub invariant-loop-k : goal.invariant-loop-k
invariant-loop-k l =
    l.holdings ≡ record l.initial.holdings {
      held = with_new (each_in l.place
          (take l.k (items_at Common l.initial.holdings.held))) l.initial.holdings.held;
    }
