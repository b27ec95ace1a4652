-- Answers to the goals of `places::close`.
use Rattle.std.proofs.Common.{◌<◌, get_or, refl, arith}
use Rattle.cf_basichash.proofs.ClosingLemmas.{begin, closing_on, closing_fewer, closed}
use Rattle.cf_basichash.proofs.places.close.Goals as goal

pub loop-places-init : goal.loop-places-init
loop-places-init c =
    begin c.args.hashes.now c.args.places.now c.args.start c.after-place.result c.requires.ways c.requires.start
    c.requires.full c.requires.free c.after-place.ensures

pub loop-places-smaller : goal.loop-places-smaller
loop-places-smaller c =
    let full : 0 < get_or c.loop-places.places c.loop-places.place 0 = omega arith in
    closing_fewer c.args.hashes.now c.args.places.now c.loop-places.places c.shift-hole.new.places c.args.start
    c.loop-places.hole c.loop-places.place c.after-place-in-loop-places.result c.shift-hole.result
    c.loop-places.invariant
    full c.shift-hole.ensures c.after-place-in-loop-places.ensures

pub loop-places-preserved : goal.loop-places-preserved
loop-places-preserved c =
    let full : 0 < get_or c.loop-places.places c.loop-places.place 0 = omega arith in
    closing_on c.args.hashes.now c.args.places.now c.loop-places.places c.shift-hole.new.places c.args.start
    c.loop-places.hole c.loop-places.place c.after-place-in-loop-places.result c.shift-hole.result
    c.loop-places.invariant
    full c.shift-hole.ensures c.after-place-in-loop-places.ensures

pub returns : goal.returns
returns c =
    closed c.args.hashes.now c.args.places.now c.loop-places.places c.args.start c.loop-places.hole c.loop-places.place
    c.loop-places.invariant c.loop-places-test.false _ refl
