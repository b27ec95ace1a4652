-- The loop invariants of `heap::ElementHeap::sort`.
use Rattle.cf_members.proofs.heap.ElementHeap.sort.Given as goal

-- the counter's ledger is that of the blank that is made for the call
abbrev pub ghosts-sort : goal.ghosts-sort
ghosts-sort a = record { name = a.blank.name; parts = a.blank.parts }
