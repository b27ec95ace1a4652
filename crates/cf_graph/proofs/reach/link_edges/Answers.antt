-- Answers to the goals of `reach::link_edges`.
use Rattle.std.proofs.Common.{◌≡◌, ℕ, ◌+◌, ◌<◌, length, List, get_or, set, ◌++◌, ◌∷◌, [], sym, ap, ◌∙◌, subst, arith}
use Rattle.std.proofs.lemmas.List.{get_or_read}
use Rattle.cf_graph.specs.declared.edge.Edge.{Edge}
use Rattle.cf_graph.specs.Walks.{source, sources, IsLinked}
use Rattle.cf_graph.proofs.Latest.{linked-more}
use Rattle.cf_graph.proofs.Closure.{sources-at}
use Rattle.cf_graph.proofs.reach.link_edges.Goals as goal

pub loop-i-preserved : goal.loop-i-preserved
loop-i-preserved c =
    let within : c.loop-i.i < length c.args.edges.now = omega arith in
    let from : c.place_of-from.result ≡ get_or (sources c.args.edges.now) c.loop-i.i 0 =
    c.place_of-from.ensures.place ∙ ap (λ (e : Edge). source e.owner) c.index-edges-i.is
    ∙ sym (sources-at c.args.edges.now c.loop-i.i c.index-edges-i.result within) in
    let places : length c.loop-i.latest.items ≡ 66562 = c.loop-i.invariant.places in
    let read : c.index.result.now ≡ get_or c.loop-i.latest.items c.place_of-from.result 0 =
    get_or_read c.loop-i.latest.items c.place_of-from.result c.index.result.now
    (omega (arith, c.place_of-from.ensures.within)) c.index.ensures 0 in
    let pushed : c.push.new.self.items ≡ c.loop-i.before.items ++ get_or c.loop-i.latest.items c.place_of-from.result
    0 ∷ [] =
    c.in_ok-push.ensures.items ∙ ap (λ (k : ℕ). c.loop-i.before.items ++ k ∷ []) read in
    let Linked : List ℕ → Type 0 =
    λ before. IsLinked (sources c.args.edges.now) (c.loop-i.i + 1)
    (set c.loop-i.latest.items c.place_of-from.result (c.loop-i.i + 1)) before in
    subst Linked (sym pushed) (linked-more _ _ c.loop-i.before.items c.loop-i.i c.place_of-from.result from
    c.place_of-from.ensures.within c.loop-i.invariant)
