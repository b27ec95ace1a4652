-- Answers to the goals of `ground::first_flags`.
use Rattle.cf_world.proofs.Telling.{flags_push}
use Rattle.cf_world.proofs.ground.first_flags.Goals as goal

pub loop-t-preserved : goal.loop-t-preserved
loop-t-preserved c = rw c.in_ok-push.ensures.items (flags_push c.loop-t.flags.items c.loop-t.t c.new.result c.loop-t.invariant c.new.ensures)
