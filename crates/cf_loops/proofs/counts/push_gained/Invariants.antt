use Rattle.std.proofs.Common.{◌≡◌, ◌+◌, ◌≤◌, ◌++◌, map, take, vec_len, vec_capacity}
use Rattle.rl_base.specs.declared.places.Place.TheVariants.{Common, Mode}
use Rattle.rl_base.specs.Modes.{items_gained}
use Rattle.rl_modes.specs.Loops.{holds_at, items_at}
use Rattle.cf_loops.proofs.counts.push_gained.Given as goal

abbrev pub invariant-loop-item : goal.invariant-loop-item
invariant-loop-item l = record {
  room : vec_len l.numbers ≤ vec_len l.initial.numbers + l.item-index;
  capacity : vec_capacity l.numbers ≡ vec_capacity l.initial.numbers;
  so_far : l.numbers.items ≡ l.initial.numbers.items
      ++ map (λ i. i.id) (items_gained (λ i. holds_at l.modes.held i.id (Mode l.mode)) (take l.item-index (items_at Common l.modes.held)));
}
