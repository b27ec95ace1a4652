-- Answers to the goals of `reader::read_script`.
use Rattle.std.proofs.Common.{ℕ, List, ap, ◌∙◌, arith, subst}
use Rattle.cf_syntax.specs.Lines.{lines}
use Rattle.cf_syntax.specs.Text.{Reading, after_line, named_threads}
use Rattle.cf_syntax.proofs.NumberedLaws.{text_numbered}
use Rattle.cf_syntax.proofs.ReadingLaws.{text_of_stage}
use Rattle.cf_script.specs.Gives.{Fails}
use Rattle.cf_script.specs.Views.{lent}
use Rattle.cf_script.specs.BlockViews.{reading_of}
use Rattle.cf_script.proofs.ReaderLaws.{finish, script_finish, line_refused, none_left, read_whole}
use Rattle.cf_script.proofs.NearLaws.{words_known}
use Rattle.cf_script.proofs.Utf8.{where_true}
use Rattle.cf_script.proofs.reader.read_script.Goals as goal

pub loop-rest-init : goal.loop-rest-init
loop-rest-init c = record {
  so_far =
      ap (λ (r : Reading). finish (named_threads (lines c.args.bytes.now)) r (lines c.args.bytes.now)) c.in-Ok.ensures
      ∙ script_finish c.args.bytes.now;
  within = omega (arith, ap (λ (r : Reading). r.count) c.in-Ok.ensures, c.requires);
  utf8 = where_true c.is_utf8-is_known.result c.args.bytes.now c.is_utf8-is_known.ensures;
}

pub returns-in-Err-clause-read : goal.returns-in-Err-clause-read
returns-in-Err-clause-read c =
    line_refused (named_threads (lines c.args.bytes.now)) (reading_of c.loop-rest.reader) (lines c.loop-rest.rest.now) c.next_line.result.0.now (lines c.next_line.result.1.now) c.args.bytes.now c.in-Err.fault c.on_line.result
    c.loop-rest.invariant.so_far c.next_line.ensures.lines
    (subst (λ (ts : List (List ℕ)). Fails c.in-Err.fault (after_line ts (reading_of c.loop-rest.reader) c.next_line.result.0.now)) c.in-Ok-of_text.ensures c.in-Err.ensures.read)
    c.on_line.ensures

pub new-requires-in-Ok-whole : goal.new-requires-in-Ok-whole
new-requires-in-Ok-whole c =
    let none = none_left c.loop-rest.rest.now c.is_empty.result c.is_empty.ensures c.loop-rest-test.false in
    text_numbered c.args.bytes.now c.in-Ok-whole.parts c.requires
    (read_whole (named_threads (lines c.args.bytes.now)) c.args.bytes.now (reading_of c.loop-rest.reader) c.loop-rest.rest.now c.in-Ok-whole.parts c.loop-rest.invariant.so_far none c.in-Ok-whole.ensures)

pub returns-in-Ok-whole-clause-read : goal.returns-in-Ok-whole-clause-read
returns-in-Ok-whole-clause-read c =
    let none = none_left c.loop-rest.rest.now c.is_empty.result c.is_empty.ensures c.loop-rest-test.false in
    rw c.new-in-Ok-whole.ensures (read_whole (named_threads (lines c.args.bytes.now)) c.args.bytes.now (reading_of c.loop-rest.reader) c.loop-rest.rest.now c.in-Ok-whole.parts c.loop-rest.invariant.so_far none c.in-Ok-whole.ensures)

pub returns-in-Ok-whole-clause-stage : goal.returns-in-Ok-whole-clause-stage
returns-in-Ok-whole-clause-stage c =
    let none = none_left c.loop-rest.rest.now c.is_empty.result c.is_empty.ensures c.loop-rest-test.false in
    rw c.new-in-Ok-whole.ensures (text_of_stage c.args.bytes.now c.in-Ok-whole.parts
    (read_whole (named_threads (lines c.args.bytes.now)) c.args.bytes.now (reading_of c.loop-rest.reader) c.loop-rest.rest.now c.in-Ok-whole.parts c.loop-rest.invariant.so_far none c.in-Ok-whole.ensures))

pub after_line-requires-clause-words : goal.after_line-requires-clause-words
after_line-requires-clause-words c =
    words_known c.near_words-near.result c.is_some.result c.loop-rest.rest.now c.next_line.result.0.now (lent c.near_words-near.new.found.items)
    c.is_some.ensures c.near_words-near.ensures.words c.next_line.ensures.first
