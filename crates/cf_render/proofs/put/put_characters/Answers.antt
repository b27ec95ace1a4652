-- Answers to the goals of `put::put_characters`.
use Rattle.std.proofs.Common.{arith}
use Rattle.cf_render.proofs.Spacing.{all_put}
use Rattle.cf_render.proofs.put.put_characters.Goals as goal

pub returns : goal.returns
returns c = all_put c.args.characters.now.units c.args.text.now.items c.loop-at.text.items c.loop-at.at (omega arith) c.loop-at.invariant.written
