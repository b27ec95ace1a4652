-- Answers to the goals of `places::first`.
use Rattle.cf_basichash.proofs.PlacesLemmas.{seek_from, seek_on, seek_nearer}
use Rattle.cf_basichash.proofs.places.first.Goals as goal

pub loop-place-init : goal.loop-place-init
loop-place-init c = seek_from _ _ _ c.requires.home

pub loop-place-smaller : goal.loop-place-smaller
loop-place-smaller c =
    seek_nearer c.args.places.now c.args.home c.args.number c.loop-place.place c.after-place.result c.requires.there
    c.loop-place.invariant c.loop-place-test.true c.after-place.ensures

pub loop-place-preserved : goal.loop-place-preserved
loop-place-preserved c =
    seek_on c.args.places.now c.args.home c.args.number c.loop-place.place c.after-place.result c.requires.there
    c.loop-place.invariant c.loop-place-test.true c.after-place.ensures
