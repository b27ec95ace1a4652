-- Answers to the goals of `words::plain_len`.
use Rattle.std.proofs.Common.{get_or, inl, refl, sym, ◌∙◌}
use Rattle.cf_syntax.specs.declared.place.Place.TheVariants.{Plain}
use Rattle.cf_syntax.proofs.WordLaws.{word_goes_at, word_ends_at, word_closes_at}
use Rattle.cf_script.proofs.NameLaws.{stays_plain}
use Rattle.cf_script.proofs.words.plain_len.Goals as goal

pub returns-in-Between-clause-words : goal.returns-in-Between-clause-words
returns-in-Between-clause-words c =
    let e = sym c.goes.ensures ∙ c.in_ok-goes.was in
    word_ends_at c.args.bytes.now c.loop-i.i Plain _ c.loop-i-test.true (rw c.in-Between.is at e) tt c.loop-i.invariant

pub loop-i-preserved : goal.loop-i-preserved
loop-i-preserved c =
    let e = sym c.goes.ensures ∙ c.in_ok-goes.was in
    let same = stays_plain (get_or c.args.bytes.now c.loop-i.i 0) c.in_ok-goes.field-0 e c.in_default.not-Between in
    word_goes_at c.args.bytes.now c.loop-i.i Plain Plain _ c.loop-i-test.true (rw same at e) tt c.loop-i.invariant

pub returns-clause-words : goal.returns-clause-words
returns-clause-words c = word_closes_at c.args.bytes.now c.loop-i.i Plain _ c.loop-i-test.false c.loop-i.auto.i-end (inl refl) c.loop-i.invariant
