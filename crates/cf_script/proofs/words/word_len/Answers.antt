-- Answers to the goals of `words::word_len`.
use Rattle.std.proofs.Common.{sym, ◌∙◌}
use Rattle.cf_syntax.proofs.WordLaws.{within_from, word_goes_at, word_ends_at, word_closes_at}
use Rattle.cf_script.proofs.words.word_len.Goals as goal

pub returns-in-Between-clause-words : goal.returns-in-Between-clause-words
returns-in-Between-clause-words c =
    let e = sym c.goes.ensures ∙ c.in_ok-next.was in
    word_ends_at c.args.bytes.now c.loop-i.i c.loop-i.place _ c.loop-i-test.true (rw c.in-Between.is at e) c.loop-i.invariant.within c.loop-i.invariant.so_far

pub loop-i-preserved : goal.loop-i-preserved
loop-i-preserved c =
    let inside = within_from c.in_ok-next.next c.in_default.not-Between in
    record {
      within = inside;
      so_far = word_goes_at c.args.bytes.now c.loop-i.i c.loop-i.place c.in_ok-next.next _ c.loop-i-test.true (sym c.goes.ensures ∙ c.in_ok-next.was) inside c.loop-i.invariant.so_far;
    }

pub returns-in-Plain-clause-words : goal.returns-in-Plain-clause-words
returns-in-Plain-clause-words c =
    word_closes_at c.args.bytes.now c.loop-i.i c.loop-i.place _ c.loop-i-test.false c.loop-i.auto.i-end c.in-Plain.is c.loop-i.invariant.so_far
