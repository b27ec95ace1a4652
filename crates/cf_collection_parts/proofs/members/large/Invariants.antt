-- The loop invariants of `members::large`.
use Rattle.cf_collection_parts.proofs.members.large.Given as goal

abbrev pub ghosts-large_order : goal.ghosts-large_order
ghosts-large_order a = record { name = a.blank.name; parts = a.blank.parts }
