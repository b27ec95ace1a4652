-- Answers to the goals of `seen::see`.
use Rattle.cf_store.proofs.Setting.{seen_within}
use Rattle.cf_store.proofs.seen.see.Goals as goal

pub returns : goal.returns
returns c =
    rw (c.in-Some.is, ← c.number.view_is) (seen_within c.args.bodies.now c.number.inside.0 c.index-bodies-place.result c.if-bodies-place.false c.index-bodies-place.is)
