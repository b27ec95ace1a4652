-- Answers to the goals of `stack::Stack::pass_callee`.
use Rattle.std.proofs.Common.{◌≡◌, ◌≤◌, ◌<◌, reverse, length, ap, sym, arith}
use Rattle.std.proofs.lemmas.List.{length-map, length-reverse}
use Rattle.cf_next.specs.Next.{top_frame}
use Rattle.cf_next.specs.Stacks.{Stack}
use Rattle.cf_next.specs.Grids.{top_row}
use Rattle.cf_next.specs.Views.{callee_of, callees_of}
use Rattle.cf_next.proofs.FrameLaws.{called-frames}
use Rattle.cf_next.proofs.stack.Stack.pass_callee.Goals as goal

pub returns-clause-frames : goal.returns-clause-frames
returns-clause-frames c =
    let s = c.self.inside in
    let some : 0 < length s.collected.rows = omega (arith, c.self.invariant.collected_each) in
    let view : (top_frame c.args.self.now.frames).collected ≡ callees_of (top_row s.collected.rows) = ap (λ (v : Stack). (top_frame v.frames).collected) (sym c.self.view_is) in
    let left : c.args.left ≤ length (top_row s.collected.rows) = omega (arith, c.requires, ap length view, length-map (reverse (top_row s.collected.rows)) callee_of, length-reverse (top_row s.collected.rows)) in
    rw (← c.self.view_is) (called-frames (callee_of c.args.callee.now).role c.args.left s.top c.mark_called.new.kind (reverse s.below.items) s.bindings.rows s.collected.rows c.truncate.new.self.rows c.mark_called.ensures.kind c.mark_called.ensures.block c.truncate.ensures.rows some left)
