-- The loop invariants of `advance::collect_receivers`.
use Rattle.std.proofs.Common.{◌≡◌, ◌≤◌, length, map}
use Rattle.cf_next.specs.Stands.{as_receiver, callee}
use Rattle.cf_next.specs.Advance.{on_top}
use Rattle.cf_next.specs.Stacks.{with_collected}
use Rattle.cf_next.proofs.advance.collect_receivers.Given as goal

-- those that are left come before what is there
abbrev pub invariant-loop-last : goal.invariant-loop-last
invariant-loop-last l = record {
  frames : on_top (with_collected (map (callee as_receiver) l.rest)) l.stack.frames ≡ on_top (with_collected (map (callee as_receiver) l.fn.list)) l.initial.stack.frames;
  room : length l.rest ≤ l.stack.callee_room;
  frame_room : l.stack.frame_room ≡ l.initial.stack.frame_room;
}

abbrev pub decreases-loop-last : goal.decreases-loop-last
decreases-loop-last l = length l.rest
