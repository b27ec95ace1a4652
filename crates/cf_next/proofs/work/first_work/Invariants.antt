-- The loop invariants of `work::first_work`.
use Rattle.std.proofs.Common.{◌≡◌, ◌≤◌, length, take}
use Rattle.cf_next.specs.Demands.{work_demand, work_left}
use Rattle.cf_next.specs.Views.{works_of}
use Rattle.cf_next.proofs.work.first_work.Given as goal

-- the items that were passed over have nothing left
abbrev pub invariant-loop-item : goal.invariant-loop-item
invariant-loop-item g l = record {
  begins : l.rest ≡ take (length l.rest) l.fn.work;
  demand : work_demand (g.F.Facts.known l.facts) (works_of l.rest) ≡ work_demand (g.F.Facts.known l.facts)
      (works_of l.fn.work);
  left : work_left (g.F.Facts.known l.facts) (works_of l.rest) ≡ work_left (g.F.Facts.known l.facts)
      (works_of l.fn.work);
  within : length l.rest ≤ length l.fn.work;
}

abbrev pub decreases-loop-item : goal.decreases-loop-item
decreases-loop-item g l = length l.rest
