-- Answers to the goals of `stack::stop_below`.
use Rattle.std.proofs.Common.{reverse}
use Rattle.cf_next.proofs.StackLaws.{has-at, stop-at, stop-none}
use Rattle.cf_next.proofs.stack.stop_below.Goals as goal

pub returns-in-Some-clause-found : goal.returns-in-Some-clause-found
returns-in-Some-clause-found c =
    let h = has-at c.as_slice.result.now c.in-Some.i c.in-Some.ensures c.index_mut.result.now in
    let e = c.as_slice.ensures.value in
    cc

pub returns-in-Some-clause-frames : goal.returns-in-Some-clause-frames
returns-in-Some-clause-frames c =
    let h = stop-at c.as_slice.result.now c.in-Some.i c.in-Some.ensures c.index_mut.result.now in
    let e = c.as_slice.ensures.value in
    let v = c.index_mut.ensures.value in
    let s = c.stop_frame.ensures in
    cc

pub returns-in-None-clause-frames : goal.returns-in-None-clause-frames
returns-in-None-clause-frames c =
    let h = stop-none (reverse c.as_slice.result.now) c.in-None.ensures in
    let e = c.as_slice.ensures.value in
    cc
