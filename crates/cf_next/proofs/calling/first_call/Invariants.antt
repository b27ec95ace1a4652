-- The loop invariants of `calling::first_call`.
use Rattle.std.proofs.Common.{◌≡◌, ◌≤◌, length, take}
use Rattle.cf_next.specs.Demands.{call_demand, callees_left}
use Rattle.cf_next.specs.Views.{callees_of, kind_of}
use Rattle.cf_next.proofs.calling.first_call.Given as goal

-- those that were passed over do not fit
abbrev pub invariant-loop-callee : goal.invariant-loop-callee
invariant-loop-callee g l = record {
  begins : l.rest ≡ take (length l.rest) l.fn.collected;
  demand : call_demand (g.F.Facts.known l.facts) l.t (kind_of l.kind)
      (callees_of l.rest) ≡ call_demand (g.F.Facts.known l.facts) l.t (kind_of l.kind) (callees_of l.fn.collected);
  left : callees_left (g.F.Facts.known l.facts) l.t (kind_of l.kind)
      (callees_of l.rest) ≡ callees_left (g.F.Facts.known l.facts) l.t (kind_of l.kind) (callees_of l.fn.collected);
  within : length l.rest ≤ length l.fn.collected;
}

abbrev pub decreases-loop-callee : goal.decreases-loop-callee
decreases-loop-callee g l = length l.rest
