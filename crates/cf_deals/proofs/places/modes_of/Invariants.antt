-- The loop invariants of `places::modes_of`.
use Rattle.std.proofs.Common.{◌≡◌, ◌-◌, ◌≤◌, length}
use Rattle.std.specs.List.{range_with_len}
use Rattle.cf_deals.proofs.places.modes_of.Given as goal

-- those that were passed over are listed
abbrev pub invariant-loop-next : goal.invariant-loop-next
invariant-loop-next l = record {
  listed : l.modes.items ≡ range_with_len 0 l.next;
  within : l.next ≤ length l.script.modes;
}

abbrev pub decreases-loop-next : goal.decreases-loop-next
decreases-loop-next l = length l.script.modes - l.next
