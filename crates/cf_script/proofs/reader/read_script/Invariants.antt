-- The loop invariants of `reader::read_script`.
use Rattle.std.proofs.Common.{◌≡◌, ◌+◌, ◌≤◌, length}
use Rattle.std.specs.Prelude.{IsTrue}
use Rattle.std.specs.Str.{IsUtf8}
use Rattle.cf_ids.specs.declared.limits.TheConstants.{SCRIPT_BYTES}
use Rattle.cf_syntax.specs.Lines.{lines}
use Rattle.cf_syntax.specs.Text.{named_threads, script_of}
use Rattle.cf_script.specs.BlockViews.{reading_of}
use Rattle.cf_script.proofs.ReaderLaws.{finish}
use Rattle.cf_script.proofs.reader.read_script.Given as goal

-- reading on gives what the whole text gives, and a line takes at least a byte
abbrev pub invariant-loop-rest : goal.invariant-loop-rest
invariant-loop-rest l = record {
  so_far : finish (named_threads (lines l.bytes)) (reading_of l.reader) (lines l.rest) ≡ script_of l.bytes;
  within : l.reader.count + length l.rest ≤ SCRIPT_BYTES;
  utf8 : IsTrue l.is_known → IsUtf8 l.rest;
}

abbrev pub decreases-loop-rest : goal.decreases-loop-rest
decreases-loop-rest l = length l.rest
