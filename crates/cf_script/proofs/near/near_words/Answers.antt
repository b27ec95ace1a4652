-- Answers to the goals of `near::near_words`.
use Rattle.std.proofs.Common.{ℕ, ◌<◌, subst, arith}
use Rattle.std.proofs.lemmas.List.{get_or-take}
use Rattle.cf_script.specs.Views.{lent}
use Rattle.cf_script.proofs.NearLaws.{goes_past, ends_there}
use Rattle.cf_script.proofs.near.near_words.Goals as goal

pub returns-then-byte-eq10-clause-end : goal.returns-then-byte-eq10-clause-end
returns-then-byte-eq10-clause-end c =
    let bytes = c.args.bytes.now in
    let within : c.in-Some.stop < 32 = c.stops_of-stops.ensures.within c.in-Some.stop c.in-Some.ensures.set in
    (ends_there bytes c.loop-stop.start c.in-Some.stop (lent c.loop-stop.found.items) (lent c.push_between.new.found.items) c.loop-stop.invariant c.in-Some.ensures.from within
    (λ k ge lt. subst (λ (b : ℕ). 34 < b) (get_or-take 32 bytes k 0 (omega (arith, lt, within))) (c.stops_of-stops.ensures.above k (omega (arith, lt, within)) (c.in-Some.ensures.first k ge lt)))
    (omega (arith, c.if-byte-eq10.true)) c.in-Ok.ensures).0

pub returns-then-byte-eq10-clause-words : goal.returns-then-byte-eq10-clause-words
returns-then-byte-eq10-clause-words c =
    let bytes = c.args.bytes.now in
    let within : c.in-Some.stop < 32 = c.stops_of-stops.ensures.within c.in-Some.stop c.in-Some.ensures.set in
    (ends_there bytes c.loop-stop.start c.in-Some.stop (lent c.loop-stop.found.items) (lent c.push_between.new.found.items) c.loop-stop.invariant c.in-Some.ensures.from within
    (λ k ge lt. subst (λ (b : ℕ). 34 < b) (get_or-take 32 bytes k 0 (omega (arith, lt, within))) (c.stops_of-stops.ensures.above k (omega (arith, lt, within)) (c.in-Some.ensures.first k ge lt)))
    (omega (arith, c.if-byte-eq10.true)) c.in-Ok.ensures).1

pub loop-stop-preserved : goal.loop-stop-preserved
loop-stop-preserved c =
    let bytes = c.args.bytes.now in
    let within : c.in-Some.stop < 32 = c.stops_of-stops.ensures.within c.in-Some.stop c.in-Some.ensures.set in
    goes_past bytes c.loop-stop.start c.in-Some.stop (lent c.loop-stop.found.items) (lent c.push_between.new.found.items) c.loop-stop.invariant c.in-Some.ensures.from within
    (λ k ge lt. subst (λ (b : ℕ). 34 < b) (get_or-take 32 bytes k 0 (omega (arith, lt, within))) (c.stops_of-stops.ensures.above k (omega (arith, lt, within)) (c.in-Some.ensures.first k ge lt)))
    (omega (arith, c.if-byte-ne32.false)) c.in-Ok.ensures
