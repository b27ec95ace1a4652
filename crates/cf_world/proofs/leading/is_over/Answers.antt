-- Answers to the goals of `leading::is_over`.
use Rattle.cf_world.specs.Grounds.{state_of}
use Rattle.cf_world.proofs.LeadLaws.{over_then, over_else}
use Rattle.cf_world.proofs.leading.is_over.Goals as goal

pub returns-then-all_done : goal.returns-then-all_done
returns-then-all_done c =
    over_then c.args.ground.now.script (state_of c.args.ground.now) c.args.frames.now _ _ c.requires c.all_done.ensures c.if-all_done.true

pub returns-else-all_done : goal.returns-else-all_done
returns-else-all_done c =
    over_else c.args.ground.now.script (state_of c.args.ground.now) c.args.frames.now _ _ _ c.requires c.all_done.ensures c.if-all_done.false c.has_stalled.ensures.stalled
