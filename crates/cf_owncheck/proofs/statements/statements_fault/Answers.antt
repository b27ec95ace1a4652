-- Answers to the goals of `statements::statements_fault`.
use Rattle.std.proofs.Common.{◌≡◌, ◌+◌, ◌++◌, length, drop, map, sym, subst, ◌∙◌}
use Rattle.std.proofs.lemmas.List.{drop-drop}
use Rattle.cf_syntax.specs.BlockLines.{says}
use Rattle.cf_syntax.specs.Counting.{HasRoom}
use Rattle.cf_syntax.specs.Owned.{statements_fault}
use Rattle.cf_owncheck.proofs.Walks.{Reached, at_place, reached_more, one_left}
use Rattle.cf_owncheck.proofs.statements.statements_fault.Goals as goal

pub loop-i-preserved : goal.loop-i-preserved
loop-i-preserved c =
    let i = c.loop-i.i in
    let xs = c.args.statements.now in
    let ns = c.args.lines.now in
    let x = c.index-statements-i.result in
    let left : length (drop i xs) ≡ length (drop (i + 1) xs) + 1 = one_left xs i x c.loop-i-test.true in
    record {
      room = c.count.ensures.room (length (drop (i + 1) xs)) (subst (HasRoom c.loop-i.counts) left c.loop-i.invariant.room);
      walk = λ earlier counted.
          let all = statements_fault c.args.script.now earlier ns xs in
          let whole = earlier ++ map says xs in
          let here = at_place c.args.script.now c.loop-i.counts ns xs i x all whole c.loop-i-test.true c.index-statements-i.is (c.loop-i.invariant.walk earlier counted) in
          let more = reached_more c.args.script.now c.loop-i.counts c.count.new.self (drop i ns) x (drop (i + 1) xs) all whole here c.in_default.ensures
          (λ e y is before. c.count.ensures.counted e y (is ∙ sym c.ownership.ensures) before) in
          subst (λ ms. Reached c.args.script.now c.count.new.self ms (drop (i + 1) xs) all whole) (drop-drop 1 i ns) more;
    }
