-- The loop invariants of `stands::Stands::opening`.
use Rattle.std.proofs.Common.{◌≡◌, ◌-◌, ◌≤◌, map, length}
use Rattle.std.specs.List.{range_with_len}
use Rattle.cf_next.specs.Stands.{opening_stand}
use Rattle.cf_state.specs.Placed.{IsPlaced, stands_of}
use Rattle.cf_state.proofs.stands.Stands.opening.Given as goal

abbrev pub invariant-loop-thread : goal.invariant-loop-thread
invariant-loop-thread l = record {
  made : stands_of l.stands.items ≡ map opening_stand (range_with_len 0 l.thread);
  placed : IsPlaced 0 l.stands.items;
  count : length l.stands.items ≡ l.thread;
  within : l.thread ≤ l.script.thread_count;
}

abbrev pub decreases-loop-thread : goal.decreases-loop-thread
decreases-loop-thread l = l.script.thread_count - l.thread
