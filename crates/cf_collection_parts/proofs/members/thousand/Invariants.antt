-- The loop invariants of `members::thousand`.
use Rattle.std.proofs.Common.{◌≡◌, ◌+◌, ◌≤◌}
use Rattle.cf_collection_parts.proofs.members.thousand.Given as goal

-- as many coins were added as there are numbers before this one, and there is room for the others
abbrev pub invariant-loop-i : goal.invariant-loop-i
invariant-loop-i g l = record {
  adds : l.heap.adds ≡ l.i;
  room : 1000 ≤ l.heap.room + l.i;
}
