-- The loop invariants of `whole::write_all`.
use Rattle.std.proofs.Common.{◌≡◌, ◌≤◌, ◌-◌, length, take}
use Rattle.cf_io.specs.Bytes.{then_bytes}
use Rattle.cf_io.proofs.whole.write_all.Given as goal

abbrev pub invariant-loop-out : goal.invariant-loop-out
invariant-loop-out g l = record {
  in_range : l.out ≤ length l.bytes;
  taken : g.K.Sink.taken l.sink ≡ then_bytes (g.K.Sink.taken l.initial.sink) (take l.out l.bytes);
  stays : g.K.Sink.faults l.sink ≡ g.K.Sink.faults l.initial.sink;
}

abbrev pub decreases-loop-out : goal.decreases-loop-out
decreases-loop-out g l = length l.bytes - l.out
