use Rattle.std.proofs.Common.{◌≡◌, ◌<◌, List, length, arith, refl, ap, sym}
use Rattle.rl_modes.specs.Loops.{Loop}
use Rattle.cf_next.proofs.HeldLaws.{lists-more}
use Rattle.cf_loops.specs.Edging.{loop_edges, thread_edges}
use Rattle.cf_loops.proofs.EdgeLists.{adds_loops}
use Rattle.cf_loops.proofs.Listing.{lists_none}
use Rattle.cf_loops.proofs.Looking.{at_read}
use Rattle.cf_loops.proofs.loops.Loops.add_edges.Goals as goal

pub loop-t-init : goal.loop-t-init
loop-t-init c = lists_none (thread_edges c.args.self.now) c.args.edges.now.items

pub loop-t-preserved : goal.loop-t-preserved
loop-t-preserved c =
    let same = ap (λ (ls : List Loop). length ls) c.self.view_is in
    let within : c.loop-t.t < length c.args.self.now = omega (arith, c.self.inside.loops.ok.0, same, c.loop-t-test.true) in
    let is = at_read c.args.self.now c.self.inside.loops.items c.loop-t.t c.loop-t.t c.index.result.now c.self.view_is refl within c.index.ensures in
    lists-more (thread_edges c.args.self.now) c.loop-t.t c.args.edges.now.items c.loop-t.edges.items c.add_loop.new.edges.items
    (loop_edges c.loop-t.t c.index.result.now.held) c.loop-t.invariant c.in_ok-add_loop.ensures
    (ap (λ (l : Loop). loop_edges c.loop-t.t l.held) (sym is))

pub returns : goal.returns
returns c = λ s st h.
    let same = ap (λ (ls : List Loop). length ls) c.self.view_is in
    let all : c.loop-t.t ≡ length c.args.self.now = omega (arith, c.self.inside.loops.ok.0, same, c.loop-t-test.false, c.loop-t.auto.t-end) in
    adds_loops s st c.args.self.now h c.loop-t.t c.args.edges.now.items c.loop-t.edges.items all c.loop-t.invariant
