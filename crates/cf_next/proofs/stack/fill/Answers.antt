-- Answers to the goals of `stack::fill`.
use Rattle.std.proofs.Common.{◌∙◌, ap, length, arith}
use Rattle.std.proofs.Math.ListN.{length-set}
use Rattle.cf_next.specs.Views.{cell_of}
use Rattle.cf_next.proofs.StackLaws.{cell-next}
use Rattle.cf_next.proofs.stack.fill.Goals as goal

pub loop-bound-preserved : goal.loop-bound-preserved
loop-bound-preserved c =
    let w = c.loop-bound.invariant in
    let b = c.bound-item.result in
    record {
      size = ap length c.set.ensures.table ∙ length-set c.loop-bound.table b.variable b.object ∙ w.size;
      is = λ v. ap (λ t. cell_of t v) c.set.ensures.table ∙ cell-next c.args.row.now c.loop-bound.bound-index b c.loop-bound.table c.loop-bound-test.true c.bound-item.is (omega (arith, w.size, c.set.ensures.within)) w.is v;
    }
