-- Answers to the goals of `members::push_words`.
use Rattle.std.proofs.Common.{◌<◌, length, arith, rules}
use Rattle.cf_body.specs.Bodies.{content_of, words_of}
use Rattle.cf_contents.proofs.Showing.{join_first, join_next}
use Rattle.cf_body.proofs.Wording.{length-words}
use Rattle.cf_body.proofs.members.push_words.Goals as goal
use Rattle.cf_body.proofs.members.push_words.Goals.{then-place-gt0+in_ok-push, else-place-gt0}

pub loop-place-preserved : goal.loop-place-preserved
loop-place-preserved c =
    let words = words_of (content_of c.args.kind.now) in
    let at = c.loop-place.place in
    let within : at < length words = omega (arith, length-words (content_of c.args.kind.now)) in
    elim c.if-place-gt0.branch [
      | then-place-gt0+in_ok-push w ↦ join_next words at _ c.loop-place.out.items _ within w.if-place-gt0.true c.loop-place.invariant (search rules)
      | else-place-gt0 w ↦ join_first words at _ c.loop-place.out.items _ within w.if-place-gt0.false c.loop-place.invariant (search rules)
    ]
