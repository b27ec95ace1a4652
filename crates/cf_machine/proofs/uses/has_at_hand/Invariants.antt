-- The loop invariants of `uses::has_at_hand`.
use Rattle.std.proofs.Common.{◌≡◌, length, nat_lt}
use Rattle.cf_graph.specs.Edges.{weigh}
use Rattle.cf_model.specs.Journals.{reaching}
use Rattle.cf_machine.specs.Uses.{owners_by}
use Rattle.cf_machine.proofs.uses.has_at_hand.Given as goal

-- none of those that were passed over is one
abbrev pub invariant-loop-edge : goal.invariant-loop-edge
invariant-loop-edge l = nat_lt 0 (weigh (reaching l.thread (owners_by l.body) l.object) l.rest) ≡ nat_lt 0 (weigh (reaching l.thread (owners_by l.body) l.object) l.fn.edges)

abbrev pub decreases-loop-edge : goal.decreases-loop-edge
decreases-loop-edge l = length l.rest
