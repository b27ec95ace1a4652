use Rattle.std.proofs.Common.{◌≡◌, ℕ, List, arith, ap, sym, ◌∙◌, ◌++◌, map, append_assoc}
use Rattle.cf_ids.specs.declared.limits.TheConstants.{MODES}
use Rattle.cf_ids.specs.declared.numbers.Item.{Item}
use Rattle.rl_base.specs.declared.places.Place.TheVariants.{Common, Mode}
use Rattle.cf_graph.specs.declared.edge.Edge.{Edge}
use Rattle.cf_next.specs.Held.{below}
use Rattle.cf_next.proofs.HeldLaws.{lists-more}
use Rattle.cf_loops.specs.Edging.{edge_from, mode_edges, place_edges}
use Rattle.cf_loops.proofs.Listing.{lists_none}
use Rattle.cf_loops.proofs.edges.add_loop.Goals as goal

pub loop-m-init : goal.loop-m-init
loop-m-init c = lists_none (mode_edges c.args.t c.args.modes.now.held) c.add_items.new.edges.items

pub loop-m-preserved : goal.loop-m-preserved
loop-m-preserved c =
    lists-more (mode_edges c.args.t c.args.modes.now.held) c.loop-m.m c.add_items.new.edges.items c.loop-m.edges.items c.add_items-in-loop-m.new.edges.items
    (map (edge_from c.args.t (Mode c.loop-m.m)) c.items.result.now) c.loop-m.invariant c.in_ok-add_items-2.ensures
    (ap (λ (is : List Item). map (edge_from c.args.t (Mode c.loop-m.m)) is) (sym c.items.ensures))

pub returns : goal.returns
returns c =
    let start = c.args.edges.now.items in
    let common = place_edges c.args.t c.args.modes.now.held Common in
    let f = mode_edges c.args.t c.args.modes.now.held in
    let all : c.loop-m.m ≡ MODES = omega (arith, c.loop-m.auto.m-end) in
    let first = c.in_ok-add_items.ensures ∙ ap (λ (is : List Item). start ++ map (edge_from c.args.t Common) is) c.common_items.ensures in
    c.loop-m.invariant ∙ ap (λ (n : ℕ). c.add_items.new.edges.items ++ below f n) all
    ∙ ap (λ (es : List Edge). es ++ below f MODES) first ∙ append_assoc start common (below f MODES)
