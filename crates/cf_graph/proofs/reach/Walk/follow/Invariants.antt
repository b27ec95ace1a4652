-- The loop invariants of `reach::Walk::follow`.
use Rattle.std.proofs.Common.{◌≡◌, ◌-◌, ◌<◌, ◌≤◌, length, get_or}
use Rattle.cf_graph.specs.Walks.{sources, targets, Grows}
use Rattle.cf_graph.proofs.reach.Walk.follow.Given as goal

abbrev pub invariant-loop-next : goal.invariant-loop-next
invariant-loop-next l = record {
  within : l.next ≤ length l.edges;
  here : 0 < l.next → get_or (sources l.edges) (l.next - 1) 0 ≡ l.place;
  grows : Grows (sources l.edges) (targets l.edges) l.place l.next l.initial.self.marks.items l.self.marks.items
      l.initial.self.stack.items l.self.stack.items;
}

abbrev pub decreases-loop-next : goal.decreases-loop-next
decreases-loop-next l = l.next
