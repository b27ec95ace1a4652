use Rattle.std.proofs.Common.{arith}
use Rattle.cf_loops.specs.Changing.{places_at}
use Rattle.cf_loops.proofs.Counting.{places_few, there_if, past_if}
use Rattle.cf_loops.proofs.counts.count_places.Goals as goal

pub overflow_add-k : goal.overflow_add-k
overflow_add-k c = omega (arith, places_few c.args.item c.args.modes.now, c.loop-item.invariant)

pub loop-item-smaller : goal.loop-item-smaller
loop-item-smaller c =
    let within = there_if (places_at c.args.item c.args.modes.now) c.loop-item.k c.place.result c.is_some.result c.place.ensures c.is_some.ensures c.loop-item-test.true in
    omega (arith, within)

pub loop-item-preserved : goal.loop-item-preserved
loop-item-preserved c =
    let within = there_if (places_at c.args.item c.args.modes.now) c.loop-item.k c.place.result c.is_some.result c.place.ensures c.is_some.ensures c.loop-item-test.true in
    omega (arith, within)

pub returns : goal.returns
returns c =
    let past = past_if (places_at c.args.item c.args.modes.now) c.loop-item.k c.place.result c.is_some.result c.place.ensures c.is_some.ensures c.loop-item-test.false in
    omega (arith, past, c.loop-item.invariant)
