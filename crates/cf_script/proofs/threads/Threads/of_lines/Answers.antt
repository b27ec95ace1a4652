-- Answers to the goals of `threads::Threads::of_lines`.
use Rattle.std.proofs.Common.{◌++◌, List, ℕ, ap, length, arith}
use Rattle.std.proofs.lemmas.List.{length-take}
use Rattle.cf_syntax.specs.Lines.{lines}
use Rattle.cf_syntax.specs.Words.{words}
use Rattle.cf_syntax.specs.Text.{thread_name, thread_names}
use Rattle.cf_script.specs.Views.{lent}
use Rattle.cf_script.proofs.ReaderLaws.{none_left}
use Rattle.cf_script.proofs.ThreadLaws.{names_on, names_whole, no_names}
use Rattle.cf_script.proofs.threads.Threads.of_lines.Goals as goal

pub loop-rest-init : goal.loop-rest-init
loop-rest-init c = record {
  so_far = no_names 63 (lent c.new.result.items) (thread_names (lines c.args.text.now)) (ap lent c.new.ensures.items);
  few = omega (arith, ap (λ (l : List (List ℕ)). length l) (ap lent c.new.ensures.items));
}

pub loop-rest-smaller : goal.loop-rest-smaller
loop-rest-smaller c = c.next_line.ensures.shorter

pub loop-rest-preserved : goal.loop-rest-preserved
loop-rest-preserved c = record {
  so_far =
      names_on 63 c.loop-rest.threads c.note.new.self (lines c.args.text.now) (lines c.loop-rest.rest.now) (lines c.next_line.result.1.now) c.next_line.result.0.now
      c.loop-rest.invariant.so_far c.next_line.ensures.lines c.in_ok-note.ensures;
  few = omega (arith, ap length c.in_ok-note.ensures, length-take 63 (c.loop-rest.threads ++ thread_name (words c.next_line.result.0.now)));
}

pub returns : goal.returns
returns c =
    names_whole 63 c.loop-rest.threads (lines c.args.text.now) (lines c.loop-rest.rest.now) c.loop-rest.invariant.so_far
    (ap lines (none_left c.loop-rest.rest.now c.is_empty.result c.is_empty.ensures c.loop-rest-test.false)) c.loop-rest.invariant.few
