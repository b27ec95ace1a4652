-- The loop invariants of `heap::ElementHeap::at_turn`.
use Rattle.cf_members.proofs.heap.ElementHeap.at_turn.Given as goal

-- the counter's ledger is that of the blank that is made for the call
abbrev pub ghosts-id_at_turn : goal.ghosts-id_at_turn
ghosts-id_at_turn a = record { name = a.blank.name; parts = a.blank.parts }
