-- Answers to the goals of `edges::add_ground`.
use Rattle.std.proofs.Common.{List, length, ◌++◌, ap, arith, ◌∙◌}
use Rattle.std.proofs.lemmas.Result.{IfOk-weaker}
use Rattle.cf_graph.specs.declared.edge.Edge.{Edge}
use Rattle.cf_graph.specs.Edges.{edges_of}
use Rattle.cf_model.specs.Journals.{After}
use Rattle.cf_next.specs.Held.{below}
use Rattle.cf_world.specs.Referring.{slot_references}
use Rattle.cf_world.proofs.Referring.{few-bodies}
use Rattle.cf_world.proofs.edges.add_ground.Goals as goal

pub add_parcels-requires : goal.add_parcels-requires
add_parcels-requires c = record {
  threads = rw c.script.ensures.script c.script.ensures.runs.numbered.threads;
  places = rw c.script.ensures.script (rw (← c.ground.view_is) c.ground.invariant.follows.parcels_are.has);
}

pub add_bodies-requires : goal.add_bodies-requires
add_bodies-requires c =
    let g = c.ground.inside in few-bodies g.script g.journal.items g.store.bodies c.ground.invariant.legal c.ground.invariant.follows.mirrors

pub add_edges-requires : goal.add_edges-requires
add_edges-requires c =
    let g = c.ground.inside in
    omega (arith, c.ground.invariant.follows.has_loops.loops_are.threads, c.ground.invariant.script.numbered.threads)

pub returns : goal.returns
returns c =
    let g = c.ground.inside in
    let st = After g.script g.journal.items in
    rw (← c.ground.view_is) (IfOk-weaker c.add_edges.result _ _
    (λ done adds. let h = adds g.script st c.ground.invariant.follows.has_loops.loops_are in record {
      rows = g.parcels;
      bodies = g.store.bodies;
      mirrors = c.ground.invariant.follows.mirrors;
      places = c.ground.invariant.follows.parcels_are;
      loops = h.references;
      of_loops = h.of_places;
      of_no_other = h.of_no_other;
      added = h.added ∙ ap (λ (es : List Edge). es ++ edges_of h.references) (c.in_ok-add_bodies.ensures ∙ ap (λ (es : List Edge). es ++ edges_of (below (slot_references g.store.bodies) (length g.store.bodies))) c.in_ok-add_parcels.ensures);
    })
    c.add_edges.ensures)
