-- Answers to the goals of `stack::run_below`.
use Rattle.std.proofs.Common.{sym, reverse}
use Rattle.cf_next.proofs.StackLaws.{run-here, run-none}
use Rattle.cf_next.proofs.stack.run_below.Goals as goal

pub returns-in-Some : goal.returns-in-Some
returns-in-Some c =
    let h = run-here c.args.frames.now c.in-Some.i c.in-Some.ensures c.index-frames-i.result in
    let e = c.index-frames-i.is in
    let r = c.run_of.ensures in
    cc

pub returns-in-None : goal.returns-in-None
returns-in-None c = sym (run-none (reverse c.args.frames.now) c.in-None.ensures)
