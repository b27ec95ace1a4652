-- Answers to the goals of `flow::move_all`.
use Rattle.std.proofs.Common.{◌∙◌, sym}
use Rattle.cf_references.specs.Views.{holder_of}
use Rattle.cf_references.proofs.Finding.{move-next}
use Rattle.cf_references.proofs.flow.move_all.Goals as goal

pub loop-reference-preserved : goal.loop-reference-preserved
loop-reference-preserved c =
    let h = c.in-Some.ensures.cases in
    sym (move-next (holder_of c.args.to.now) c.in-Some.reference.now c.loop-reference.rest.now c.in-Some.others.now c.loop-reference.references.items c.move_one.new.references.items h.0 c.in_ok-move_one.ensures)
    ∙ c.loop-reference.invariant
