-- The loop invariants of `types::compared`.
use Rattle.cf_parts.proofs.types.compared.Given as goal

abbrev pub ghosts-orders : goal.ghosts-orders
ghosts-orders a = record { name = a.blank.name; parts = a.blank.parts }
