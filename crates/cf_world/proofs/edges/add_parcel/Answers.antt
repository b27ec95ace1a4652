-- Answers to the goals of `edges::add_parcel`.
use Rattle.std.proofs.Common.{sym, append-nil, refl}
use Rattle.cf_next.proofs.HeldLaws.{below-none}
use Rattle.cf_world.specs.Referring.{place_references}
use Rattle.cf_world.proofs.EdgeLists.{edges-more}
use Rattle.cf_world.proofs.edges.add_parcel.Goals as goal

pub loop-k-init : goal.loop-k-init
loop-k-init c = rw (below-none (place_references c.args.parcels.now c.args.t)) (sym (append-nil c.args.edges.now.items))

pub loop-k-preserved : goal.loop-k-preserved
loop-k-preserved c =
    edges-more (place_references c.args.parcels.now c.args.t) c.loop-k.k c.args.edges.now.items c.loop-k.edges.items c.add_place.new.edges.items _ c.loop-k.invariant c.in_ok-add_place.ensures refl
