-- The loop invariants of `rows::seek`.
use Rattle.std.proofs.Common.{◌-◌, ◌%◌, length}
use Rattle.cf_basichash.specs.Places.{steps}
use Rattle.cf_basichash.proofs.PlacesLemmas.{IsPassed}
use Rattle.cf_basichash.proofs.SeekLemmas.{Fails}
use Rattle.cf_basichash.proofs.rows.seek.Given as goal

abbrev pub invariant-loop-row : goal.invariant-loop-row
invariant-loop-row g l =
    IsPassed l.index.places (Fails (g.C.Callbacks.same l.callbacks l.k) l.rows) (l.hash % length l.index.places)
    l.place

abbrev pub decreases-loop-row : goal.decreases-loop-row
decreases-loop-row g l = length l.index.places - steps (length l.index.places) (l.hash % length l.index.places) l.place
