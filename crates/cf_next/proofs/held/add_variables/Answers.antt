-- Answers to the goals of `held::add_variables`.
use Rattle.std.proofs.Common.{sym, append-nil, arith}
use Rattle.cf_next.specs.Held.{counted_objects}
use Rattle.cf_next.proofs.HeldLaws.{below-none, variable-more}
use Rattle.cf_next.proofs.held.add_variables.Goals as goal

pub loop-v-init : goal.loop-v-init
loop-v-init c = rw (below-none (counted_objects c.args.table.now c.args.counts.now)) (sym (append-nil c.args.out.now.items))

pub loop-v-preserved : goal.loop-v-preserved
loop-v-preserved c =
    variable-more c.args.table.now c.args.counts.now c.loop-v.v _ c.object.result c.saturating_sub-number.result c.args.out.now.items c.loop-v.out.items c.add_variable.new.out.items
    (omega (arith, c.told-table, c.loop-v-test.true)) c.object.ensures c.saturating_sub-number.ensures c.loop-v.invariant c.in_ok-add_variable.ensures
