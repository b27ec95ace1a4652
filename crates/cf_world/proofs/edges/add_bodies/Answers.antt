-- Answers to the goals of `edges::add_bodies`.
use Rattle.std.proofs.Common.{sym, append-nil, refl}
use Rattle.cf_next.proofs.HeldLaws.{below-none}
use Rattle.cf_world.specs.Referring.{slot_references}
use Rattle.cf_world.proofs.EdgeLists.{edges-more}
use Rattle.cf_world.proofs.edges.add_bodies.Goals as goal

pub loop-body-init : goal.loop-body-init
loop-body-init c = rw (below-none (slot_references c.args.store.now.bodies)) (sym (append-nil c.args.edges.now.items))

pub loop-body-preserved : goal.loop-body-preserved
loop-body-preserved c =
    edges-more (slot_references c.args.store.now.bodies) c.loop-body.body c.args.edges.now.items c.loop-body.edges.items c.add_body.new.edges.items _ c.loop-body.invariant c.in_ok-add_body.ensures refl
