-- Answers to the goals of `held::add_frames`.
use Rattle.std.proofs.Common.{sym, append-nil, refl, arith}
use Rattle.cf_next.specs.Held.{depth_objects}
use Rattle.cf_next.proofs.HeldLaws.{below-none, have-more, lists-more}
use Rattle.cf_next.proofs.held.add_frames.Goals as goal

pub loop-depth-init : goal.loop-depth-init
loop-depth-init c = record {
  items = rw (below-none (depth_objects c.args.script.now c.args.stack.now.frames)) (sym (append-nil c.args.out.now.items));
  variables = λ d v lt le. absurd (omega (arith, lt));
}

pub loop-depth-preserved : goal.loop-depth-preserved
loop-depth-preserved c =
    let fs = c.args.stack.now.frames in
    let n = c.loop-depth.depth in
    record {
      items = lists-more (depth_objects c.args.script.now fs) n c.args.out.now.items c.loop-depth.out.items c.add_frame.new.out.items _ c.loop-depth.invariant.items c.in_ok-add_frame.ensures.objects refl;
      variables = have-more fs n c.loop-depth.invariant.variables c.in_ok-add_frame.ensures.variables;
    }
