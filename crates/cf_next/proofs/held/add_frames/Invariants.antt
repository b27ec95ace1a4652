-- The loop invariants of `held::add_frames`.
use Rattle.std.proofs.Common.{◌≡◌, ◌++◌}
use Rattle.cf_next.specs.Held.{HaveVariables, below, depth_objects}
use Rattle.cf_next.proofs.held.add_frames.Given as goal

abbrev pub invariant-loop-depth : goal.invariant-loop-depth
invariant-loop-depth l = record {
  items : l.out.items ≡ l.initial.out.items ++ below (depth_objects l.script l.stack.frames) l.depth;
  variables : HaveVariables l.stack.frames l.depth;
}
