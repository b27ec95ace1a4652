-- The loop invariants of `heap::ElementHeap::remove_least`.
use Rattle.cf_members.proofs.heap.ElementHeap.remove_least.Given as goal

-- the counter's ledger is that of the blank that is made for the call
abbrev pub ghosts-remove_minimum : goal.ghosts-remove_minimum
ghosts-remove_minimum a = record { name = a.blank.name; parts = a.blank.parts }
