-- The loop invariants of `uses::has_own`.
use Rattle.std.proofs.Common.{◌≡◌, length, nat_lt}
use Rattle.cf_graph.specs.Edges.{weigh, from_thread}
use Rattle.cf_machine.proofs.uses.has_own.Given as goal

-- none of those that were passed over is one
abbrev pub invariant-loop-edge : goal.invariant-loop-edge
invariant-loop-edge l = nat_lt 0 (weigh (from_thread l.thread l.object) l.rest) ≡ nat_lt 0 (weigh (from_thread l.thread l.object) l.fn.edges)

abbrev pub decreases-loop-edge : goal.decreases-loop-edge
decreases-loop-edge l = length l.rest
