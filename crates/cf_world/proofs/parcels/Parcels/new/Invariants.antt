-- The loop invariants of `parcels::Parcels::new`.
use Rattle.std.proofs.Common.{map}
use Rattle.cf_world.proofs.Placing.{AreEmpty}
use Rattle.cf_world.proofs.parcels.Parcels.new.Given as goal

-- the threads before this one have their rows
abbrev pub invariant-loop-t : goal.invariant-loop-t
invariant-loop-t l = AreEmpty l.script l.t (map (λ row. row.items) l.rows.items)
