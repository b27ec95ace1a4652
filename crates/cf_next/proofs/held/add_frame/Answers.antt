-- Answers to the goals of `held::add_frame`.
use Rattle.std.proofs.lemmas.Result.{IfOk-weaker}
use Rattle.cf_next.specs.Held.{frame_at}
use Rattle.cf_next.specs.Views.{block_in, kind_of}
use Rattle.cf_next.proofs.HeldLaws.{frame-whole}
use Rattle.cf_next.proofs.held.add_frame.Goals as goal

pub returns-clause-objects : goal.returns-clause-objects
returns-clause-objects c =
    let x = c.frame-frame.result.now in
    let f = frame_at c.args.stack.now.frames c.args.depth in
    IfOk-weaker c.add_variable.result _ _
    (λ done added.
    frame-whole c.args.script.now f c.fill.new.table c.count_lines-counts.result (kind_of x.kind) (block_in x.kind) x.number c.item.result
    c.args.out.now.items c.add_variables.new.out.items c.add_variable.new.out.items c.count_lines-counts.ensures c.frame-frame.ensures.number c.frame-frame.ensures.kind c.frame-frame.ensures.block
    (rw c.bound.ensures at c.fill.ensures.cells) c.item.ensures c.in_ok-add_variables.ensures added)
    c.add_variable.ensures
