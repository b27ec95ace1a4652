-- The loop invariants of `held::add_owed`.
use Rattle.std.proofs.Common.{◌≡◌, ◌++◌, length}
use Rattle.cf_next.specs.Held.{owed_objects}
use Rattle.cf_next.specs.Views.{works_of}
use Rattle.cf_next.proofs.held.add_owed.Given as goal

-- those that are left come after what is there
abbrev pub invariant-loop-item : goal.invariant-loop-item
invariant-loop-item l = l.out.items ++ owed_objects (works_of l.rest) ≡ l.initial.out.items ++ owed_objects (works_of l.fn.work)

abbrev pub decreases-loop-item : goal.decreases-loop-item
decreases-loop-item l = length l.rest
