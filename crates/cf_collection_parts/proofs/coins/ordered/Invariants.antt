-- The loop invariants of `coins::ordered`.
use Rattle.cf_collection_parts.proofs.coins.ordered.Given as goal

abbrev pub ghosts-orders : goal.ghosts-orders
ghosts-orders a = record { name = a.blank.name; parts = a.blank.parts }
