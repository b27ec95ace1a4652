-- The loop invariants of `threads::Threads::of_lines`.
use Rattle.std.proofs.Common.{◌≡◌, ◌++◌, ◌≤◌, take, length}
use Rattle.cf_syntax.specs.Lines.{lines}
use Rattle.cf_syntax.specs.Text.{thread_names, named_threads}
use Rattle.cf_script.proofs.threads.Threads.of_lines.Given as goal

-- the names so far with those of the lines that are left are those of the text
abbrev pub invariant-loop-rest : goal.invariant-loop-rest
invariant-loop-rest l = record {
  so_far : take 63 (l.threads ++ thread_names (lines l.rest)) ≡ named_threads (lines l.text);
  few : length l.threads ≤ 63;
}

abbrev pub decreases-loop-rest : goal.decreases-loop-rest
decreases-loop-rest l = length l.rest
