-- Answers to the goals of `holdings::spot_of`.
use Rattle.rl_modes.proofs.Pairs.{places_parted, items_parted, cut_within}
use Rattle.rl_modes.proofs.holdings.spot_of.Goals as goal

pub range_of-start-requires : goal.range_of-start-requires
range_of-start-requires c = places_parted c.args.places.now c.args.items.now c.requires.long c.requires.ordered

pub first_item-requires : goal.first_item-requires
first_item-requires c = items_parted c.args.place.now c.args.places.now c.args.items.now _ _ c.requires.long
    c.range_of-start.ensures c.requires.ordered c.args.item

pub returns : goal.returns
returns c = cut_within c.args.place.now c.args.places.now c.args.items.now _ _ c.requires.long
    c.range_of-start.ensures c.args.item _ c.first_item.ensures
