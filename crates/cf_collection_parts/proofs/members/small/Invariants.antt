-- The loop invariants of `members::small`.
use Rattle.cf_collection_parts.proofs.members.small.Given as goal

abbrev pub ghosts-small_order : goal.ghosts-small_order
ghosts-small_order a = record { name = a.blank.name; parts = a.blank.parts }
