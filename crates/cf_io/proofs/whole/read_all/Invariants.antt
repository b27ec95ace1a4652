-- The loop invariants of `whole::read_all`.
use Rattle.std.proofs.Common.{◌≡◌, ◌≤◌, ◌<◌, ◌-◌, length, vec_len}
use Rattle.cf_io.specs.Bytes.{bytes_then}
use Rattle.cf_io.proofs.whole.read_all.Given as goal

abbrev pub invariant-loop-bytes : goal.invariant-loop-bytes
invariant-loop-bytes g l = record {
  whole : bytes_then l.bytes.items (g.S.Source.left l.source) ≡ g.S.Source.left l.initial.source;
  fits : vec_len l.bytes ≤ l.limit;
  room : 0 < length l.piece;
  stays : g.S.Source.faults l.source ≡ g.S.Source.faults l.initial.source;
  files : g.S.Source.files l.source ≡ g.S.Source.files l.initial.source;
}

abbrev pub decreases-loop-bytes : goal.decreases-loop-bytes
decreases-loop-bytes g l = l.limit - vec_len l.bytes
