-- Answers to the goals of `flow::grow`.
use Rattle.cf_references.specs.Views.{holder_of}
use Rattle.cf_references.proofs.Finding.{grown}
use Rattle.cf_references.proofs.flow.grow.Goals as goal

pub returns : goal.returns
returns c =
    grown c.args.enters.now c.args.moves.now (holder_of c.args.to.now) c.args.references.now.items c.add_all.new.references.items c.move_all.new.references.items c.in_ok-add_all.ensures c.in_ok-move_all.ensures
