-- Answers to the goals of `edges::add_parcels`.
use Rattle.std.proofs.Common.{ℕ, sym, ap, ◌∙◌, append-nil, arith}
use Rattle.cf_graph.specs.Edges.{edges_of}
use Rattle.cf_next.specs.Held.{below}
use Rattle.cf_next.proofs.HeldLaws.{below-none}
use Rattle.cf_world.specs.Referring.{place_references, parcel_references}
use Rattle.cf_world.proofs.EdgeLists.{edges-more}
use Rattle.cf_world.proofs.edges.add_parcels.Goals as goal

pub loop-t-init : goal.loop-t-init
loop-t-init c = rw (below-none (parcel_references c.args.parcels.now)) (sym (append-nil c.args.edges.now.items))

pub loop-t-preserved : goal.loop-t-preserved
loop-t-preserved c =
    let t = c.loop-t.t in
    let f = place_references c.args.parcels.now t in
    edges-more (parcel_references c.args.parcels.now) t c.args.edges.now.items c.loop-t.edges.items c.add_parcel.new.edges.items _ c.loop-t.invariant c.in_ok-add_parcel.ensures
    (ap (λ (n : ℕ). edges_of (below f n)) (c.requires.places.places t (omega arith) ∙ sym c.places.ensures))
