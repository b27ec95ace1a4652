-- Answers to the goals of `rows::start_at`.
use Rattle.std.proofs.Common.{◌∷◌, reverse, sym, arith}
use Rattle.std.proofs.lemmas.List.{length-reverse}
use Rattle.cf_next.proofs.DepthLaws.{at-kept, at-past}
use Rattle.cf_next.proofs.rows.start_at.Goals as goal

pub returns-then-depth-below : goal.returns-then-depth-below
returns-then-depth-below c = sym (at-kept c.args.end 0 c.args.top c.args.below.now c.args.depth c.if-depth-below.true)

pub returns-else-depth-below-2 : goal.returns-else-depth-below-2
returns-else-depth-below-2 c =
    sym (at-past c.args.end (c.args.top ∷ reverse c.args.below.now) c.args.depth (omega (arith, c.if-depth-below.false, c.if-depth-below-2.false, length-reverse c.args.below.now)))
