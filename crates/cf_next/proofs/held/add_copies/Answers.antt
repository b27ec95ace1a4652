-- Answers to the goals of `held::add_copies`.
use Rattle.cf_next.proofs.HeldLaws.{copies-more}
use Rattle.cf_next.proofs.held.add_copies.Goals as goal

pub loop-preserved : goal.loop-preserved
loop-preserved c =
    copies-more c.args.object c.loop.counter c.args.out.now.items c.loop.out.items c.push.new.self.items c.loop.invariant c.in_ok-push.ensures.items
