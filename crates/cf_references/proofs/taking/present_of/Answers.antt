-- Answers to the goals of `taking::present_of`.
use Rattle.std.proofs.Common.{refl}
use Rattle.cf_references.proofs.Finding.{present-step}
use Rattle.cf_references.proofs.taking.present_of.Goals as goal

pub loop-next-preserved : goal.loop-next-preserved
loop-next-preserved c =
    let h = c.in-Some.ensures.cases in
    let e = c.in_ok-take_present.ensures in
    present-step _ c.loop-next.present.items c.take_present.new.present.items c.loop-next.rest.now c.in-Some.others.now c.in-Some.next.now c.loop-next.left.items c.take_present.new.left.items _ refl h.0 e.left e.present c.loop-next.invariant
