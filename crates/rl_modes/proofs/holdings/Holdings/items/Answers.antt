-- Answers to the goals of `holdings::Holdings::items`.
use Rattle.rl_modes.proofs.Pairs.{places_parted, items_between, items_rise}
use Rattle.rl_modes.proofs.holdings.Holdings.items.Goals as goal

pub range_of-start-requires : goal.range_of-start-requires
range_of-start-requires c = rw c.as_slice.ensures.value (places_parted _ _ c.self.invariant.1.places_long
    c.self.invariant.0.ordered)

pub returns-clause-items : goal.returns-clause-items
returns-clause-items c = rw (← c.self.view_is, c.deref.ensures.value) (items_between c.args.place.now _ _ _ _
    c.self.invariant.1.places_long (rw c.as_slice.ensures.value at c.range_of-start.ensures))

pub returns-clause-rising : goal.returns-clause-rising
returns-clause-rising c = rw c.deref.ensures.value (items_rise c.args.place.now _ _ _ _ c.self.invariant.1.places_long
    (rw c.as_slice.ensures.value at c.range_of-start.ensures) c.self.invariant.0.ordered)
