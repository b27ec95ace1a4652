-- The loop invariants of `stack::fill`.
use Rattle.std.proofs.Common.{◌≡◌, ℕ, length, take}
use Rattle.cf_ids.specs.declared.limits.TheConstants.{VARIABLES}
use Rattle.cf_next.specs.Stands.{look}
use Rattle.cf_next.specs.Views.{bindings_of, cell_of}
use Rattle.cf_next.proofs.stack.fill.Given as goal

-- the table has what the first ones bind
abbrev pub invariant-loop-bound : goal.invariant-loop-bound
invariant-loop-bound l = record {
  size : length l.table ≡ VARIABLES;
  is : (v : ℕ) → cell_of l.table v ≡ look v (bindings_of (take l.bound-index l.fn.row));
}
