-- The loop invariants of `begun::first_frames`.
use Rattle.cf_world.proofs.Starting.{StartTo}
use Rattle.cf_world.proofs.begun.first_frames.Given as goal

-- the threads before this one stand at their first lines
abbrev pub invariant-loop-t : goal.invariant-loop-t
invariant-loop-t l = StartTo l.t l.frames.items
