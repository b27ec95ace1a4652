-- Answers to the goals of `stack::run_at`.
use Rattle.std.proofs.Common.{arith}
use Rattle.cf_next.proofs.LoopLaws.{begins-next}
use Rattle.cf_next.proofs.StackLaws.{past-next}
use Rattle.cf_next.proofs.stack.run_at.Goals as goal

pub loop-last-preserved : goal.loop-last-preserved
loop-last-preserved c =
    let w = c.loop-last.invariant in
    let h = c.in-Some.ensures.cases in
    let e = h.0 in
    record {
      begins = begins-next c.in-Some.others.now c.args.frames.now c.loop-last.rest.now c.in-Some.last.now e w.begins;
      past = past-next c.args.frames.now c.loop-last.rest.now c.in-Some.others.now c.in-Some.last.now e w.begins w.past w.within cc;
      within = omega (arith, h.1, w.within);
    }
