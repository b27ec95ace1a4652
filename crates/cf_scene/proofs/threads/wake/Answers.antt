-- Answers to the goals of `threads::wake`.
use Rattle.cf_model.specs.Deals.{wake_flags}
use Rattle.cf_scene.proofs.Flagging.{flags_set}
use Rattle.cf_scene.proofs.threads.wake.Goals as goal

pub returns : goal.returns
returns c =
    flags_set c.args.flags.now.items c.args.t c.t.inside.0 c.index.result.now c.t.view_is c.requires c.index.ensures c.woken.result wake_flags c.woken.ensures
