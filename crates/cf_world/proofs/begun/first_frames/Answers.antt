-- Answers to the goals of `begun::first_frames`.
use Rattle.std.proofs.Common.{◌+◌, ap, sym, subst}
use Rattle.cf_next.specs.Standing.{Standing}
use Rattle.cf_world.proofs.Starting.{StartTo, start_more}
use Rattle.cf_world.proofs.begun.first_frames.Goals as goal

pub loop-t-preserved : goal.loop-t-preserved
loop-t-preserved c =
    subst (StartTo (c.loop-t.t + 1)) (sym c.in_ok-push.ensures.items)
    (start_more c.loop-t.t c.loop-t.frames.items c.new.result c.loop-t.invariant (ap (λ (f : Standing). f.thread) c.new.ensures) (ap (λ (f : Standing). f.stand) c.new.ensures))
