-- The loop invariants of `heap::ElementHeap::add`.
use Rattle.cf_members.proofs.heap.ElementHeap.add.Given as goal

-- the counter's ledger is that of the blank that is made for the call
abbrev pub ghosts-add : goal.ghosts-add
ghosts-add a = record { name = a.blank.name; parts = a.blank.parts }
