-- The loop invariants of `advance::collect_items`.
use Rattle.std.proofs.Common.{◌≡◌, ◌≤◌, length, map}
use Rattle.std.specs.List.{All}
use Rattle.cf_ids.specs.Ranges.{IsObjectNumber}
use Rattle.cf_next.specs.Turns.{role_at}
use Rattle.cf_next.specs.Stands.{callee}
use Rattle.cf_next.specs.Advance.{on_top}
use Rattle.cf_next.specs.Stacks.{with_collected}
use Rattle.cf_next.proofs.advance.collect_items.Given as goal

-- those that are left come before what is there
abbrev pub invariant-loop-last : goal.invariant-loop-last
invariant-loop-last l = record {
  frames : on_top (with_collected (map (callee (role_at l.fn.phase)) l.rest)) l.stack.frames ≡ on_top (with_collected (map (callee (role_at l.fn.phase)) l.fn.list)) l.initial.stack.frames;
  room : length l.rest ≤ l.stack.callee_room;
  objects : All IsObjectNumber l.rest;
}

abbrev pub decreases-loop-last : goal.decreases-loop-last
decreases-loop-last l = length l.rest
